-- What a change brings is in its limits, by what its types say of its values and by what the vault allows.
use Rattle.std.proofs.Common.{◌≡◌, ℕ, ◌≤◌, List, [], ◌∷◌, length, Bool, true, false, Option, Some, None, IsTrue, IfSome, IsSome, sym, subst, ◌∙◌, refl, true≢false, ◌++◌, not, arith}
use Rattle.std.specs.Prelude.{is_none, nat_lt}
use Rattle.std.specs.List.{AllByRecursion}
use Rattle.vault_base.specs.Days.{last_moment}
use Rattle.vault_base.specs.declared.content.Content.{Content}
use Rattle.vault_base.specs.declared.content.Content.TheVariants.{Inside, External}
use Rattle.vault_base.specs.Name.{is_version_id}
use Rattle.vault_lock.specs.Retention.{is_period}
use Rattle.vault_lock.specs.declared.retention.Default.{Default}
use Rattle.vault_rules.specs.declared.rule.Rule.{Rule}
use Rattle.vault_rules.specs.declared.rule_set.RuleFault.{RuleFault}
use Rattle.vault_rules.specs.declared.rule_set.RuleFault.TheVariants.{TooMany, SameId, NoAction, DaysAndMarkers, OutOfRange}
use Rattle.vault_rules.specs.Rules.{is_in_range, is_rule_set, passes_if_given, has_id, has_action, has_days_and_markers, fault_where, fault_of, first_of_both, first_fault}
use Rattle.vault_core_model.specs.declared.records.Entry.{Entry}
use Rattle.vault_core_model.specs.declared.records.Note.{Note}
use Rattle.vault_core_model.specs.declared.records.Removal.{Removal}
use Rattle.vault_core_model.specs.declared.records.Setting.{Setting}
use Rattle.vault_core_model.specs.declared.change.Admission.{Admission}
use Rattle.vault_core_model.specs.declared.change.Change.TheVariants as change
use Rattle.vault_core_model.specs.Allowed.{IsAdmission, IsFirstNote, IsNextSetting, HasFirst}
use Rattle.vault_core_model.specs.Allowed as allowed
use Rattle.vault_core_model.specs.Checks.{has_period}
use Rattle.vault_core_model.specs.IntakeOutcome.{is_line}
use Rattle.vault_core_model.specs.Sound.{HasItsContent, HasRoom, IsWholeAs, IsNoted, most_bytes}
use Rattle.vault_core_model.specs.Vault.{Vault}
use Rattle.vault_audit_model.specs.Limits.{IsBucketName, IsObjectKey, IsRule, AreRules, IsCause, IsSizedAs, IsEntry, IsSetting, IsNote, IsRemoval}
use Rattle.vault_store_model.specs.Limits.{IsChangeInLimits}
use Rattle.vault_store_edits.specs.Typed.{IsTypedSetting, IsTypedNote, IsTypedRule}
use Rattle.vault_store_apply.specs.Typed.{IsFirstTyped, IsTypedAdmission}

-- ---- an admission

has_digest : (r : Option Removal) (c : Option Content) (e : Entry) → HasItsContent r c e → IsSome e.digest
has_digest None None e h = absurd h
has_digest None (Some content) e h = subst (λ d. IsSome d) (sym h.1) refl
has_digest (Some r) None e h = h
has_digest (Some r) (Some content) e h = absurd h

-- a size in its limit, with the content or without it
size_in : (external : Bool) (c : Option Content) (size : ℕ) → HasRoom external c size → size ≤ most_bytes external None
size_in external None size room = room.0
size_in true (Some (Inside bytes)) size room = omega (arith, room.0)
size_in true (Some (External r)) size room = room.0
size_in false (Some (Inside bytes)) size room = room.0
size_in false (Some (External r)) size room = absurd (cc room.1)

sized : (m external : Bool) (e : Entry) (d : Option (List ℕ)) → e.digest ≡ d → (c : Option Content) (ss : List Setting) → IsWholeAs m external e c ss → IfSome d (λ x. length x ≡ 32) → IsSizedAs m external e.size d
sized true external e d same c ss whole long = (whole.0, sym same ∙ whole.1)
sized false external e None same c ss whole long = absurd (let some = subst (λ d. IsSome d) same (has_digest e.removal c e whole.1) in cc)
sized false external e (Some x) same c ss whole long = (size_in external c e.size whole.0, long)

removed : (r : Option Removal) → r ≡ None → IfSome r IsRemoval
removed None e = tt
removed (Some r) e = absurd cc

setting_in : (t : ℕ) (s : Setting) → t ≤ last_moment → s.at ≡ t → IsTypedSetting s → IsSetting s
setting_in t s low now typed = record { at = subst (λ n. n ≤ last_moment) (sym now) low; by = typed.by; retention = typed.retention }

settings_in : (marker : Bool) (t : ℕ) (ss : List Setting) → t ≤ last_moment → HasFirst marker t ss → IsFirstTyped ss → AllByRecursion IsSetting ss
settings_in true t ss low first typed = subst (AllByRecursion IsSetting) (sym first) tt
settings_in false t [] low first typed = absurd first
settings_in false t (s ∷ []) low first typed = (setting_in t s low first.0 typed, tt)
settings_in false t (s ∷ r ∷ rs) low first typed = absurd first

note_sized : (m external : Bool) (size : ℕ) (d : Option (List ℕ)) (digest : List ℕ) → IsSizedAs m external size d → d ≡ Some digest → (size ≤ most_bytes external None) × (length digest ≡ 32)
note_sized true external size d digest is same = absurd (let none : None ≡ Some digest = sym is.1 ∙ same in cc)
note_sized false external size None digest is same = absurd is
note_sized false external size (Some d) digest is same = (is.0, (let one : d ≡ digest = cc in subst (λ (x : List ℕ). length x ≡ 32) one is.1))

line_in : (n : ℕ) → IsTrue (is_line n) → (1 ≤ n) × (n ≤ 4294967295)
line_in n is = (grind (arith, is), grind (arith, is))

note_in : (v : Vault) (e : Entry) (note : Option Note) → IsEntry v.external e → IsFirstNote v e note → IfSome note IsTypedNote → IfSome note (IsNote v.external)
note_in v e None entry first typed = tt
note_in v e (Some n) entry first typed =
    let noted : IsNoted n (Some e) = first.3 in
    let of = note_sized e.marker v.external e.size e.digest n.digest entry.sized noted.3 in
    record {
      bucket = subst IsBucketName noted.0 entry.bucket;
      batch = typed.batch;
      line = line_in n.line first.1;
      key = subst IsObjectKey noted.1 entry.key;
      size = subst (λ (size : ℕ). size ≤ most_bytes v.external None) noted.2 of.0;
      digest = of.1;
      retention = typed.retention;
      id = subst (λ (id : ℕ). IsTrue (is_version_id id)) (sym first.2) entry.id;
    }

pub admission_in_limits : (v : Vault) (t : ℕ) (a : Admission) → t ≤ last_moment → IsAdmission v t a → IsTypedAdmission a → IsChangeInLimits v.external (change.Admit a)
admission_in_limits v t a low may typed =
    let e = a.history.entry in
    let entry : IsEntry v.external e = record {
      id = typed.entry.id;
      bucket = typed.entry.bucket;
      key = typed.entry.key;
      sized = sized e.marker v.external e e.digest refl a.history.content a.history.settings may.whole typed.entry.digest;
      admitted = subst (λ n. n ≤ last_moment) (sym may.now) low;
      by = typed.entry.by;
      removal = removed e.removal may.held;
    } in
    (record { entry = entry; settings = settings_in e.marker t a.history.settings low may.first typed.setting }, note_in v e a.note entry may.noted typed.note)

-- ---- a setting, a removal, a default

pub setting_in_limits : (v : Vault) (t id : ℕ) (s : Setting) → t ≤ last_moment → IsNextSetting v t id s → IsTypedSetting s → IsChangeInLimits v.external (change.AddSetting id s)
setting_in_limits v t id s low may typed = setting_in t s low may.now typed

pub removal_in_limits : (v : Vault) (t id : ℕ) (r : Removal) → t ≤ last_moment → allowed.IsRemoval v t id r → IsCause r.cause → IsChangeInLimits v.external (change.Remove id r)
removal_in_limits v t id r low may cause = record { at = subst (λ n. n ≤ last_moment) (sym may.now) low; cause = cause }

pub default_in_limits : (o : Option Default) → IsTrue (has_period o) → IfSome o (λ d. IsTrue (is_period d.period))
default_in_limits None is = tt
default_in_limits (Some d) is = is

-- ---- the rules of a set have their numbers in their ranges

-- no fault, so no test passed and none came later
later : (b : Bool) (fault : RuleFault) (rest : Option RuleFault) → is_none (fault_where b fault rest) ≡ true → is_none rest ≡ true
later true fault rest h = absurd (true≢false (sym h))
later false fault rest h = h

untested : (b : Bool) (fault : RuleFault) (rest : Option RuleFault) → is_none (fault_where (not b) fault rest) ≡ true → b ≡ true
untested true fault rest h = refl
untested false fault rest h = absurd (true≢false (sym h))

in_range : (before : List Rule) (r : Rule) → is_none (fault_of before r) ≡ true → is_in_range r ≡ true
in_range before r h =
    untested (is_in_range r) OutOfRange None
    (later (has_days_and_markers r) DaysAndMarkers _ (later (not (has_action r)) NoAction _ (later (has_id before r.id) SameId _ h)))

both_none : (a b : Option RuleFault) → is_none (first_of_both a b) ≡ true → (is_none a ≡ true) × (is_none b ≡ true)
both_none None b h = (refl, h)
both_none (Some fault) b h = absurd (true≢false (sym h))

all_in_range : (before rules : List Rule) → is_none (first_fault before rules) ≡ true → AllByRecursion (λ r. is_in_range r ≡ true) rules
all_in_range before [] h = tt
all_in_range before (r ∷ rs) h = let it = both_none _ _ h in (in_range before r it.0, all_in_range (before ++ r ∷ []) rs it.1)

set_in_range : (rules : List Rule) → is_rule_set rules ≡ true → AllByRecursion (λ r. is_in_range r ≡ true) rules
set_in_range [] h = tt
set_in_range (r ∷ rs) h = all_in_range [] (r ∷ rs) (later (nat_lt 1000 (length (r ∷ rs))) TooMany _ h)

each_rule : (rules : List Rule) → AllByRecursion (λ r. is_in_range r ≡ true) rules → AllByRecursion IsTypedRule rules → AllByRecursion IsRule rules
each_rule [] numbers names = tt
each_rule (r ∷ rs) numbers names = (record { id = names.0.0; prefix = names.0.1; numbers = numbers.0 }, each_rule rs numbers.1 names.1)

pub rules_in_limits : (given : List Rule) (rules : Option (List Rule)) → IfSome rules (λ rs. given ≡ rs) → AllByRecursion IsTypedRule given → IsTrue (passes_if_given is_rule_set rules) → IfSome rules AreRules
rules_in_limits given None same typed set = tt
rules_in_limits given (Some rules) same typed set = (set, each_rule rules (set_in_range rules set) (subst (AllByRecursion IsTypedRule) same typed))
