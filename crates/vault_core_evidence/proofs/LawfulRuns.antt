-- Every vault that is reached is lawful: what each permitted change keeps, and what each admission gives.
use Rattle.std.proofs.Common.{◌≡◌, ◌⊎◌, ℕ, ◌≤◌, List, [], ◌∷◌, ◌++◌, length, Bool, true, false, Option, Some, None, refl, sym, ap, subst, ◌∙◌, inl, inr, arith, eqb}
use Rattle.std.specs.Prelude.{find, option_map, ◌==◌, if◌then◌else◌}
use Rattle.std.specs.List.{AllByRecursion}
use Rattle.vault_base.specs.declared.right.Right.{Right}
use Rattle.vault_base.specs.declared.right.Right.TheVariants as right
use Rattle.vault_lock.specs.declared.lock.Denial.{Denial}
use Rattle.vault_lock.specs.declared.lock.Lock.{Lock}
use Rattle.vault_lock.specs.Lock.{guards, KeepsRetention, LowersGovernance}
use Rattle.vault_core_model.specs.declared.change.Change.{Change}
use Rattle.vault_core_model.specs.declared.change.Change.TheVariants.{AddDept, AddCaller, CloseCaller, AddBucket, MoveBucket, SetDefault, SetRules, Admit, AddSetting, Remove}
use Rattle.vault_core_model.specs.declared.records.Author.{Author}
use Rattle.vault_core_model.specs.declared.records.Author.TheVariants as author
use Rattle.vault_core_model.specs.declared.records.Caller.{Caller}
use Rattle.vault_core_model.specs.declared.records.Cause.{Cause}
use Rattle.vault_core_model.specs.declared.records.Cause.TheVariants as cause
use Rattle.vault_core_model.specs.declared.records.Entry.{Entry}
use Rattle.vault_core_model.specs.declared.records.History.{History}
use Rattle.vault_core_model.specs.declared.records.Removal.{Removal}
use Rattle.vault_core_model.specs.declared.records.Setting.{Setting}
use Rattle.vault_core_model.specs.declared.records.Tenure.{Tenure}
use Rattle.vault_core_model.specs.Places.{is_held_version_in}
use Rattle.vault_core_model.specs.Vault.{Vault, caller_of, history_of, last_lock, opening_of}
use Rattle.vault_core_model.specs.Reads.{lock_of}
use Rattle.vault_core_model.specs.Change.{changed, next_tenure, removed_by, removed_if, tenured_by, tenured_if, with_setting}
use Rattle.vault_core_model.specs.Sound.{IsWhole, IsWholeAs, Sound}
use Rattle.vault_core_model.specs.Allowed.{HasFirst, IsHeldId, IsNextSetting}
use Rattle.vault_core_model.specs.Step.{Reached}
use Rattle.vault_core_laws.proofs.Lists.{All-push, All-weaker, All-both, All-map}
use Rattle.vault_core_laws.proofs.Newest.{finds_itself}
use Rattle.vault_core_run_laws.specs.Bypass.{has_bypass, MayBypass}
use Rattle.vault_core_run_laws.specs.Callers.{KeepsCallers}
use Rattle.vault_core_run_laws.specs.Chains.{MayMake}
use Rattle.vault_core_run_laws.specs.Entitled.{has_right, HasRight, IsAdmitter, IsFirstBy, IsSetByRight, IsCausedByRight}
use Rattle.vault_core_run_laws.specs.Permits.{IsRetentionSetting, IsHoldSetting, IsPermittedSetting}
use Rattle.vault_core_run_laws.specs.Removals.{IsPermittedUnder}
use Rattle.vault_core_run_laws.proofs.Callers.{Callers-changed, keeps_itself}
use Rattle.vault_core_run_laws.proofs.Kept.{by_own_id, held-found, lock_of-found}
use Rattle.vault_core_run_laws.proofs.Reached.{IsRun-keeps, Sound-opening}
use Rattle.vault_core_evidence.specs.Lawful.{IsLawfulNext, AreLawfulAfter, AreLawful, last_at, IsLawfulEnd, IsLawful, Lawful}
use Rattle.vault_core_evidence.proofs.Admissions.{HasEnd, IsAdmittedSo, reached-admitted}

-- ---- what each permitted change keeps

-- the first setting, but for the end of its retention
pub record IsFirstSet (v : Vault) (admitted : ℕ) (by : Author) (s : Setting) : Type 0 where
  pub now : s.at ≡ admitted
  pub free : s.bypass ≡ false
  pub first_by : IsFirstBy v by (s ∷ [])

abbrev pub AreSet : Vault → ℕ → Author → List Setting → Type 0
AreSet v admitted by [] = Unit {0}
AreSet v admitted by (s ∷ ss) = IsFirstSet v admitted by s × AreLawfulAfter v s ss

-- a lawful history, but for that end and the department of who admitted it
pub record KeepsRules (v : Vault) (h : History) : Type 0 where
  pub admitter : IsAdmitter v h.entry.marker h.entry.by
  pub settings : AreSet v h.entry.admitted h.entry.by h.settings
  pub end : IsLawfulEnd v (last_at h.entry.admitted h.settings) (last_lock h.settings) h.entry.removal

abbrev RulesAreKept : Vault → Type 0
RulesAreKept v = AllByRecursion (KeepsRules v) v.histories

-- ---- rights stay

-- whoever has a right in v has it in w
abbrev pub KeepsEach : Vault → Vault → Type 0
KeepsEach v w = (who : List ℕ) (r : Right) → HasRight v who r → HasRight w who r

pub keeps_each : (v w : Vault) → KeepsCallers v w → KeepsEach v w
keeps_each v w keeps who r may = by_caller (caller_of v who) refl
  where
    by_caller : (o : Option Caller) → caller_of v who ≡ o → HasRight w who r
    by_caller None e = let P : Option Caller → Type 0 = λ o. has_right r o ≡ true in absurd (cc (subst P e may))
    by_caller (Some c) e =
        let P : Option Caller → Type 0 = λ o. has_right r o ≡ true in
        subst P (sym (keeps who c e).there) (subst P e may)

bypass_is : (o : Option Caller) → has_bypass o ≡ has_right right.Bypass o
bypass_is None = refl
bypass_is (Some c) = refl

bypass_kept : (v w : Vault) (who : List ℕ) → KeepsEach v w → MayBypass v who → MayBypass w who
bypass_kept v w who keep may =
    bypass_is (caller_of w who) ∙ keep who right.Bypass (sym (bypass_is (caller_of v who)) ∙ may)

-- ---- as time goes on and callers come

retention-on : (v w : Vault) (t : ℕ) (old : Lock) (s : Setting) → KeepsEach v w → IsRetentionSetting v t old s → IsRetentionSetting w t old s
retention-on v w t old s keep is = record { new = is.new; given = is.given; later = is.later; hold = is.hold; kept = by_kind is.kept }
  where
    by_kind : (KeepsRetention old.retention is.new t × (s.bypass ≡ false)) ⊎ (LowersGovernance old.retention is.new t × (s.bypass ≡ true) × MayBypass v s.by) → (KeepsRetention old.retention is.new t × (s.bypass ≡ false)) ⊎ (LowersGovernance old.retention is.new t × (s.bypass ≡ true) × MayBypass w s.by)
    by_kind (inl free) = inl free
    by_kind (inr by) = inr (by.0, by.1, bypass_kept v w s.by keep by.2)

permitted-on : (v w : Vault) (t : ℕ) (who : List ℕ) (old : Lock) (s : Setting) → KeepsEach v w → IsPermittedSetting v t who old s → IsPermittedSetting w t who old s
permitted-on v w t who old s keep is = (is.0, by_kind is.1)
  where
    by_kind : IsRetentionSetting v t old s ⊎ IsHoldSetting old s → IsRetentionSetting w t old s ⊎ IsHoldSetting old s
    by_kind (inl given) = inl (retention-on v w t old s keep given)
    by_kind (inr hold) = inr hold

by_right-on : (v w : Vault) (t : ℕ) (old : Lock) (s : Setting) → KeepsEach v w → IsSetByRight v t old s → IsSetByRight w t old s
by_right-on v w t old s keep (inl given) = inl (retention-on v w t old s keep given.0, keep s.by right.Retain given.1)
by_right-on v w t old s keep (inr hold) = inr (hold.0, keep s.by right.Hold hold.1)

next-on : (v w : Vault) (s n : Setting) → KeepsEach v w → IsLawfulNext v s n → IsLawfulNext w s n
next-on v w s n keep is = record { in_order = is.in_order; permitted = permitted-on v w n.at n.by s.lock n keep is.permitted; by = by_right-on v w n.at s.lock n keep is.by }

after-on : (v w : Vault) (s : Setting) (ss : List Setting) → KeepsEach v w → AreLawfulAfter v s ss → AreLawfulAfter w s ss
after-on v w s [] keep all = tt
after-on v w s (n ∷ ns) keep all = (next-on v w s n keep all.0, after-on v w n ns keep all.1)

first_by-on : (v w : Vault) (by : Author) (s : Setting) → KeepsEach v w → IsFirstBy v by (s ∷ []) → IsFirstBy w by (s ∷ [])
first_by-on v w by s keep is = (is.0, λ on. keep s.by right.Hold (is.1 on))

settings-on : (v w : Vault) (admitted : ℕ) (by : Author) (ss : List Setting) → KeepsEach v w → AreSet v admitted by ss → AreSet w admitted by ss
settings-on v w admitted by [] keep all = tt
settings-on v w admitted by (s ∷ ss) keep all =
    (record { now = all.0.now; free = all.0.free; first_by = first_by-on v w by s keep all.0.first_by }, after-on v w s ss keep all.1)

admitter-on : (v w : Vault) (marker : Bool) (by : Author) → KeepsEach v w → IsAdmitter v marker by → IsAdmitter w marker by
admitter-on v w false (author.Caller name) keep is = keep name right.Put is
admitter-on v w false (author.Rule rule) keep is = is
admitter-on v w true (author.Caller name) keep is = keep name right.Delete is
admitter-on v w true (author.Rule rule) keep is = is

under-on : (v w : Vault) (guarding : List Denial) (c : Cause) → KeepsEach v w → IsPermittedUnder v guarding c → IsPermittedUnder w guarding c
under-on v w guarding (cause.Request who) keep may = may
under-on v w guarding (cause.Bypass who) keep may = (may.0, bypass_kept v w who keep may.1)
under-on v w guarding (cause.Rule rule) keep may = may

caused-on : (v w : Vault) (c : Cause) → KeepsEach v w → IsCausedByRight v c → IsCausedByRight w c
caused-on v w (cause.Request name) keep is = keep name right.DeleteVersion is
caused-on v w (cause.Bypass name) keep is = keep name right.DeleteVersion is
caused-on v w (cause.Rule rule) keep is = is

end-on : (v w : Vault) (from : ℕ) (lock : Lock) (o : Option Removal) → KeepsEach v w → v.last ≤ w.last → IsLawfulEnd v from lock o → IsLawfulEnd w from lock o
end-on v w from lock None keep le end = omega (arith, end, le)
end-on v w from lock (Some r) keep le end =
    (end.0, omega (arith, end.1, le), under-on v w (guards lock r.at) r.cause keep end.2, caused-on v w r.cause keep end.3)

pub lawful-on : (v w : Vault) (h : History) → KeepsEach v w → v.last ≤ w.last → KeepsRules v h → KeepsRules w h
lawful-on v w h keep le is = record {
  admitter = admitter-on v w h.entry.marker h.entry.by keep is.admitter;
  settings = settings-on v w h.entry.admitted h.entry.by h.settings keep is.settings;
  end = end-on v w (last_at h.entry.admitted h.settings) (last_lock h.settings) h.entry.removal keep le is.end;
}

-- ---- one setting more

last_at-push : (from : ℕ) (ss : List Setting) (n : Setting) → last_at from (ss ++ n ∷ []) ≡ n.at
last_at-push from [] n = refl
last_at-push from (s ∷ []) n = refl
last_at-push from (s ∷ r ∷ rs) n = last_at-push from (r ∷ rs) n

after-push : (v : Vault) (from : ℕ) (s : Setting) (ss : List Setting) (n : Setting) → last_at from (s ∷ ss) ≤ n.at → IsPermittedSetting v n.at n.by (last_lock (s ∷ ss)) n → IsSetByRight v n.at (last_lock (s ∷ ss)) n → AreLawfulAfter v s ss → AreLawfulAfter v s (ss ++ n ∷ [])
after-push v from s [] n le permitted by all = (record { in_order = le; permitted = permitted; by = by }, tt)
after-push v from s (x ∷ xs) n le permitted by all = (all.0, after-push v from x xs n le permitted by all.1)

settings-push : (v : Vault) (admitted : ℕ) (author : Author) (ss : List Setting) (n : Setting) → 1 ≤ length ss → last_at admitted ss ≤ n.at → IsPermittedSetting v n.at n.by (last_lock ss) n → IsSetByRight v n.at (last_lock ss) n → AreSet v admitted author ss → AreSet v admitted author (ss ++ n ∷ [])
settings-push v admitted author [] n some le permitted by all = absurd (omega (arith, some))
settings-push v admitted author (s ∷ ss) n some le permitted by all = (all.0, after-push v admitted s ss n le permitted by all.1)

some_setting : (external : Bool) (h : History) (marker : Bool) → marker ≡ false → IsWholeAs marker external h.entry h.content h.settings → 1 ≤ length h.settings
some_setting external h true e whole = absurd (cc e)
some_setting external h false e whole = whole.2

marker_of : (v : Vault) (id : ℕ) (h : History) (e : Entry) → history_of v id ≡ Some h → option_map (λ g. g.entry) (history_of v id) ≡ Some e → e.marker ≡ false → h.entry.marker ≡ false
marker_of v id h e found there version =
    let same : Some h.entry ≡ Some e = sym (ap (λ (o : Option History). option_map (λ g. g.entry) o) found) ∙ there in
    let entry : h.entry ≡ e = cc same in
    ap (λ (x : Entry). x.marker) entry ∙ version

pub setting_added : (v w : Vault) (t id : ℕ) (who : List ℕ) (s : Setting) (h : History) → KeepsEach v w → v.last ≤ t → w.last ≡ t → IsNextSetting v t id s → IsHeldId v id → IsPermittedSetting v t who (lock_of v id) s → IsSetByRight v t (lock_of v id) s → find (λ g. g.entry.id == h.entry.id) v.histories ≡ Some h → IsWhole v.external h → KeepsRules v h → KeepsRules w (with_setting id s h)
setting_added v w t id who s h keep le last next held permitted by own whole is = by_id (eqb h.entry.id id) refl
  where
    added : history_of v id ≡ Some h → KeepsRules w (record h { settings = h.settings ++ s ∷ [] })
    added found =
        let none = held-found v id h found held in
        let lock = lock_of-found v id h found in
        let P : Option Removal → Type 0 = λ o. IsLawfulEnd v (last_at h.entry.admitted h.settings) (last_lock h.settings) o in
        let before : last_at h.entry.admitted h.settings ≤ v.last = subst P none is.end in
        let Q : Lock → Type 0 = λ l. IsPermittedSetting v t s.by l s in
        let R : Lock → Type 0 = λ l. IsSetByRight v t l s in
        let S : ℕ → Type 0 = λ u. IsPermittedSetting v u s.by (last_lock h.settings) s in
        let T : ℕ → Type 0 = λ u. IsSetByRight v u (last_lock h.settings) s in
        let may : IsPermittedSetting v s.at s.by (last_lock h.settings) s = subst S (sym next.now) (subst Q lock (refl, permitted.1)) in
        let right_to : IsSetByRight v s.at (last_lock h.settings) s = subst T (sym next.now) (subst R lock by) in
        let U : Option Removal → Type 0 = λ o. IsLawfulEnd w (last_at h.entry.admitted (h.settings ++ s ∷ [])) (last_lock (h.settings ++ s ∷ [])) o in
        record {
          admitter = admitter-on v w h.entry.marker h.entry.by keep is.admitter;
          settings = settings-on v w h.entry.admitted h.entry.by (h.settings ++ s ∷ []) keep
              (settings-push v h.entry.admitted h.entry.by h.settings s
              (some_setting v.external h h.entry.marker (marker_of v id h next.entry found next.there next.version) whole)
              (omega (arith, before, le, next.now)) may right_to is.settings);
          end = subst U (sym none) (omega (arith, last_at-push h.entry.admitted h.settings s, next.now, last));
        }

    by_id : (b : Bool) → eqb h.entry.id id ≡ b → KeepsRules w (if b then record h { settings = h.settings ++ s ∷ [] } else h)
    by_id true e = added (by_own_id v id h own e)
    by_id false e = lawful-on v w h keep (omega (arith, le, last)) is

-- ---- a removal

pub removed_one : (v w : Vault) (t id : ℕ) (r : Removal) (h : History) → KeepsEach v w → v.last ≤ t → w.last ≡ t → r.at ≡ t → IsHeldId v id → IsPermittedUnder v (guards (lock_of v id) t) r.cause → IsCausedByRight v r.cause → find (λ g. g.entry.id == h.entry.id) v.histories ≡ Some h → KeepsRules v h → KeepsRules w (removed_if id r h)
removed_one v w t id r h keep le last now held may by own is = by_id (eqb h.entry.id id) refl
  where
    removed : history_of v id ≡ Some h → KeepsRules w (removed_by r h)
    removed found =
        let P : Option Removal → Type 0 = λ o. IsLawfulEnd v (last_at h.entry.admitted h.settings) (last_lock h.settings) o in
        let before : last_at h.entry.admitted h.settings ≤ v.last = subst P (held-found v id h found held) is.end in
        let Q : Lock → Type 0 = λ l. IsPermittedUnder v (guards l t) r.cause in
        let R : ℕ → Type 0 = λ u. IsPermittedUnder v (guards (last_lock h.settings) u) r.cause in
        let under : IsPermittedUnder v (guards (last_lock h.settings) r.at) r.cause = subst R (sym now) (subst Q (lock_of-found v id h found) may) in
        record {
          admitter = admitter-on v w h.entry.marker h.entry.by keep is.admitter;
          settings = settings-on v w h.entry.admitted h.entry.by h.settings keep is.settings;
          end = (
            omega (arith, before, le, now),
            omega (arith, now, last),
            under-on v w (guards (last_lock h.settings) r.at) r.cause keep under,
            caused-on v w r.cause keep by,
          );
        }

    by_id : (b : Bool) → eqb h.entry.id id ≡ b → KeepsRules w (if b then removed_by r h else h)
    by_id true e = removed (by_own_id v id h own e)
    by_id false e = lawful-on v w h keep (omega (arith, le, last)) is

-- ---- a move

pub moved_one : (v w : Vault) (bucket : List ℕ) (t : Tenure) (h : History) → KeepsEach v w → v.last ≤ w.last → KeepsRules v h → KeepsRules w (tenured_if bucket t h)
moved_one v w bucket t h keep le is =
    elim (is_held_version_in bucket h.entry) as (λ b. KeepsRules w (if b then tenured_by t h else h)) [
      | true ↦ (let on = lawful-on v w h keep le is in record { admitter = on.admitter; settings = on.settings; end = on.end })
      | false ↦ lawful-on v w h keep le is
    ]

-- ---- an admission

first_settings : (v : Vault) (t admitted : ℕ) (author : Author) (marker : Bool) (ss : List Setting) → admitted ≡ t → HasFirst marker t ss → IsFirstBy v author ss → AreSet v admitted author ss × (last_at admitted ss ≡ t)
first_settings v t admitted author true ss now first by =
    let P : List Setting → Type 0 = λ xs. AreSet v admitted author xs × (last_at admitted xs ≡ t) in subst P (sym first) (tt, now)
first_settings v t admitted author false [] now first by = absurd first
first_settings v t admitted author false (s ∷ []) now first by =
    ((record { now = first.0 ∙ sym now; free = first.1; first_by = by }, tt), first.0)
first_settings v t admitted author false (s ∷ r ∷ rs) now first by = absurd first

new_one : (v w : Vault) (t : ℕ) (h : History) → KeepsEach v w → w.last ≡ t → h.entry.admitted ≡ t → h.entry.removal ≡ None → HasFirst h.entry.marker t h.settings → IsAdmitter v h.entry.marker h.entry.by → IsFirstBy v h.entry.by h.settings → KeepsRules w h
new_one v w t h keep last now none first admitter by =
    let ss = first_settings v t h.entry.admitted h.entry.by h.entry.marker h.settings now first by in
    let P : Option Removal → Type 0 = λ o. IsLawfulEnd w (last_at h.entry.admitted h.settings) (last_lock h.settings) o in
    record {
      admitter = admitter-on v w h.entry.marker h.entry.by keep admitter;
      settings = settings-on v w h.entry.admitted h.entry.by h.settings keep ss.0;
      end = subst P (sym none) (omega (arith, ss.1, last));
    }

-- ---- the changes

stay : (v w : Vault) (hs : List History) → KeepsEach v w → v.last ≤ w.last → AllByRecursion (KeepsRules v) hs → AllByRecursion (KeepsRules w) hs
stay v w hs keep le all = All-weaker (KeepsRules v) (KeepsRules w) (λ h is. lawful-on v w h keep le is) hs all

-- a history is found by its own id, and is whole
abbrev pub IsOwn : Vault → History → Type 0
IsOwn v h = (find (λ g. g.entry.id == h.entry.id) v.histories ≡ Some h) × IsWhole v.external h

pub own : (v : Vault) → Sound v → AllByRecursion (IsOwn v) v.histories
own v sound =
    All-both (λ h. find (λ g. g.entry.id == h.entry.id) v.histories ≡ Some h) (IsWhole v.external) (IsOwn v) (λ h p q. (p, q)) v.histories (finds_itself 1 v.histories sound.ids) sound.whole

each_kept : (v : Vault) (t : ℕ) (who : List ℕ) (c : Change) → Sound v → MayMake v t who c → KeepsEach v (changed v t c)
each_kept v t who c sound may = keeps_each v (changed v t c) (Callers-changed v v t who c sound (keeps_itself v) may)

rules-changed : (v : Vault) (t : ℕ) (who : List ℕ) (c : Change) → Sound v → RulesAreKept v → MayMake v t who c → RulesAreKept (changed v t c)
rules-changed v t who (AddDept name) sound lawful may = stay v (changed v t (AddDept name)) v.histories (each_kept v t who (AddDept name) sound may) may.in_time lawful
rules-changed v t who (AddCaller c) sound lawful may = stay v (changed v t (AddCaller c)) v.histories (each_kept v t who (AddCaller c) sound may) may.in_time lawful
rules-changed v t who (CloseCaller name) sound lawful may = stay v (changed v t (CloseCaller name)) v.histories (each_kept v t who (CloseCaller name) sound may) may.in_time lawful
rules-changed v t who (AddBucket name dept) sound lawful may = stay v (changed v t (AddBucket name dept)) v.histories (each_kept v t who (AddBucket name dept) sound may) may.in_time lawful
rules-changed v t who (MoveBucket name dept) sound lawful may =
    let w = changed v t (MoveBucket name dept) in
    All-map (IsOwn v) (KeepsRules v) (KeepsRules w) (tenured_if name (next_tenure v t dept))
    (λ h o is. moved_one v w name (next_tenure v t dept) h (each_kept v t who (MoveBucket name dept) sound may) may.in_time is)
    v.histories (own v sound) lawful
rules-changed v t who (SetDefault name default) sound lawful may = stay v (changed v t (SetDefault name default)) v.histories (each_kept v t who (SetDefault name default) sound may) may.in_time lawful
rules-changed v t who (SetRules name rules) sound lawful may = stay v (changed v t (SetRules name rules)) v.histories (each_kept v t who (SetRules name rules) sound may) may.in_time lawful
rules-changed v t who (Admit a) sound lawful may =
    let w = changed v t (Admit a) in
    let keep = each_kept v t who (Admit a) sound may in
    All-push (KeepsRules w) v.histories a.history (stay v w v.histories keep may.in_time lawful)
    (new_one v w t a.history keep refl may.allowed.now may.allowed.held may.allowed.first may.entitled.0 may.entitled.1)
rules-changed v t who (AddSetting id s) sound lawful may =
    let w = changed v t (AddSetting id s) in
    All-map (IsOwn v) (KeepsRules v) (KeepsRules w) (with_setting id s)
    (λ h o is. setting_added v w t id who s h (each_kept v t who (AddSetting id s) sound may) may.in_time refl may.allowed may.permitted.0 may.permitted.1 may.entitled o.0 o.1 is)
    v.histories (own v sound) lawful
rules-changed v t who (Remove id r) sound lawful may =
    let w = changed v t (Remove id r) in
    All-map (IsOwn v) (KeepsRules v) (KeepsRules w) (removed_if id r)
    (λ h o is. removed_one v w t id r h (each_kept v t who (Remove id r) sound may) may.in_time refl may.allowed.now may.allowed.held may.permitted.1 may.entitled o.0 is)
    v.histories (own v sound) lawful

reached-rules : (v : Vault) → Reached v → Sound v × RulesAreKept v
reached-rules v reached = IsRun-keeps RulesAreKept rules-changed (opening_of v.external) v reached.0 reached.1 reached.2 (Sound-opening v.external, tt)

-- ---- together

bare : (external : Bool) (h : History) (marker : Bool) → marker ≡ true → IsWholeAs marker external h.entry h.content h.settings → h.settings ≡ []
bare external h true e whole = whole.3
bare external h false e whole = absurd (cc e)

versions_set : (v : Vault) (admitted : ℕ) (by : Author) (ss : List Setting) → HasEnd false admitted ss → AreSet v admitted by ss → AreLawful v admitted by ss
versions_set v admitted by [] end all = tt
versions_set v admitted by (s ∷ ss) end all = (record { now = all.0.now; free = all.0.free; first_by = all.0.first_by; later = end }, all.1)

are_lawful : (v : Vault) (h : History) (marker : Bool) → h.entry.marker ≡ marker → IsWhole v.external h → HasEnd marker h.entry.admitted h.settings → AreSet v h.entry.admitted h.entry.by h.settings → AreLawful v h.entry.admitted h.entry.by h.settings
are_lawful v h true is whole end all =
    let P : List Setting → Type 0 = λ ss. AreLawful v h.entry.admitted h.entry.by ss in subst P (sym (bare v.external h h.entry.marker is whole)) tt
are_lawful v h false is whole end all = versions_set v h.entry.admitted h.entry.by h.settings end all

pub lawful_one : (v : Vault) (h : History) → IsWhole v.external h × IsAdmittedSo v h → KeepsRules v h → IsLawful v h
lawful_one v h is keeps = record {
  admitter = keeps.admitter;
  department = is.1.department;
  settings = are_lawful v h h.entry.marker refl is.0 is.1.end keeps.settings;
  end = keeps.end;
}

pub reached-Lawful : (v : Vault) → Reached v → Lawful v
reached-Lawful v reached =
    let kept = reached-rules v reached in
    All-both (λ h. IsWhole v.external h × IsAdmittedSo v h) (KeepsRules v) (IsLawful v) (λ h is keeps. lawful_one v h is keeps) v.histories
    (All-both (IsWhole v.external) (IsAdmittedSo v) (λ h. IsWhole v.external h × IsAdmittedSo v h) (λ h whole is. (whole, is)) v.histories kept.0.whole (reached-admitted v reached))
    kept.1
