-- A history breaks no law exactly where it is lawful.
use Rattle.std.proofs.Common.{◌≡◌, ◌⊎◌, ℕ, ◌≤◌, ◌<◌, ◌==◌, ◌&&◌, List, [], ◌∷◌, ◌++◌, Bool, true, false, Option, Some, None, Result, Ok, Err, refl, sym, ap, subst, ◌∙◌, inl, inr, arith}
use Rattle.std.specs.Prelude.{not, ◌||◌, nat_lt, nat_le, IfOk, if◌then◌else◌}
use Rattle.std.specs.List.{AllByRecursion}
use Rattle.std.proofs.lemmas.Bool.{and_parts, leb-true, ltb-true, eqb-true}
use Rattle.std.proofs.lemmas.Slice.Eq.{bytes_eq-Decides}
use Rattle.vault_base.specs.declared.right.Right.TheVariants as right
use Rattle.vault_lock.specs.declared.lock.Denial.{Denial}
use Rattle.vault_lock.specs.declared.lock.Denial.TheVariants as denial
use Rattle.vault_lock.specs.declared.lock.Lock.{Lock}
use Rattle.vault_lock.specs.declared.lock.Permit.{Permit}
use Rattle.vault_lock.specs.declared.lock.Permit.TheVariants.{Free, Bypass}
use Rattle.vault_lock.specs.declared.retention.Mode.{Mode}
use Rattle.vault_lock.specs.declared.retention.Mode.TheVariants.{Governance, Compliance}
use Rattle.vault_lock.specs.declared.retention.Retention.{Retention}
use Rattle.vault_lock.specs.Lock.{guards, keeps, permit_under, permit_instead, permit_to_lower, retainable, denial_of, KeepsRetention, LowersGovernance}
use Rattle.vault_lock.specs.Retention.{is_mode, is_in_force, in_force}
use Rattle.vault_core_model.specs.declared.records.Author.{Author}
use Rattle.vault_core_model.specs.declared.records.Author.TheVariants as author
use Rattle.vault_core_model.specs.declared.records.Cause.{Cause}
use Rattle.vault_core_model.specs.declared.records.Cause.TheVariants as cause
use Rattle.vault_core_model.specs.declared.records.History.{History}
use Rattle.vault_core_model.specs.declared.records.Removal.{Removal}
use Rattle.vault_core_model.specs.declared.records.Setting.{Setting}
use Rattle.vault_core_model.specs.declared.records.Tenure.{Tenure}
use Rattle.vault_core_model.specs.Checks.{is_own, permitted}
use Rattle.vault_core_model.specs.Vault.{Vault, caller_of, last_lock}
use Rattle.vault_core_run_laws.specs.Bypass.{has_bypass, MayBypass}
use Rattle.vault_core_run_laws.specs.Entitled.{has_right, IsAdmitter, IsSetByRight, IsCausedByRight}
use Rattle.vault_core_run_laws.specs.Permits.{IsRetentionSetting, IsHoldSetting, IsPermittedSetting}
use Rattle.vault_core_run_laws.specs.Removals.{IsPermittedUnder}
use Rattle.vault_core_run_laws.proofs.EntryChanges.{Permitted, permit_under-is}
use Rattle.vault_core_run_laws.proofs.LockChanges.{Retained, retainable-is, is-keeps}
use Rattle.vault_core_evidence.specs.Departments.{Agree}
use Rattle.vault_core_evidence.specs.Lawful.{EndsAfter, IsLawfulFirst, AreLawfulAfter, AreLawful, IsOfDepartment, department_of, last_at, IsLawfulEnd, IsLawful}
use Rattle.vault_core_evidence.specs.declared.breach.Law.{Law}
use Rattle.vault_core_evidence.specs.declared.seen_moves.Move.{Move}
use Rattle.vault_core_evidence.specs.Moves.{are_as_seen}
use Rattle.vault_core_evidence.specs.Breaches.{Test, broken, same_bool, ends_after, same_retention, gives, retains_by, retains, holds, is_permitted, is_by_right, is_admitter, is_author, is_of_department, is_permitted_removal, is_remover, first_tests, next_tests, after_tests, settings_tests, end_tests, rule_tests, move_tests, department_tests, tests, breach}
use Rattle.vault_core_evidence.proofs.DepartmentTests.{agrees_is, is_agrees}

-- ---- tests and lists of them

abbrev Pass : List Test → Type 0
Pass ts = AllByRecursion (λ (t : Test). t.passes ≡ true) ts

none_fails : (ts : List Test) → Pass ts → broken ts ≡ None
none_fails [] all = refl
none_fails (t ∷ ts) all = rw (all.0) (none_fails ts all.1)

if_none : (b : Bool) (l : Law) (rest : Option Law) → (if b then rest else Some l) ≡ None → (b ≡ true) × (rest ≡ None)
if_none true l rest e = (refl, e)
if_none false l rest e = absurd (cc e)

all_pass : (ts : List Test) → broken ts ≡ None → Pass ts
all_pass [] e = tt
all_pass (t ∷ ts) e = let first = if_none t.passes t.law (broken ts) e in (first.0, all_pass ts first.1)

both_pass : (xs ys : List Test) → Pass xs → Pass ys → Pass (xs ++ ys)
both_pass [] ys a b = b
both_pass (x ∷ xs) ys a b = (a.0, both_pass xs ys a.1 b)

parts_pass : (xs ys : List Test) → Pass (xs ++ ys) → Pass xs × Pass ys
parts_pass [] ys all = (tt, all)
parts_pass (x ∷ xs) ys all = let rest = parts_pass xs ys all.1 in ((all.0, rest.0), rest.1)

-- ---- truth values

and_of : (a b : Bool) → a ≡ true → b ≡ true → (a && b) ≡ true
and_of a b ea eb = rw (ea, eb) refl

or_is : (a b : Bool) → (a || b) ≡ true → (a ≡ true) ⊎ (b ≡ true)
or_is true b e = inl refl
or_is false b e = inr e

or_left : (a b : Bool) → a ≡ true → (a || b) ≡ true
or_left a b e = rw e refl

or_right : (a b : Bool) → b ≡ true → (a || b) ≡ true
or_right true b e = refl
or_right false b e = e

not_is : (b : Bool) → not b ≡ true → b ≡ false
not_is true e = absurd (cc e)
not_is false e = refl

is_not : (b : Bool) → b ≡ false → not b ≡ true
is_not b e = rw e refl

same_is : (a b : Bool) → same_bool a b ≡ true → a ≡ b
same_is true b e = sym e
same_is false b e = sym (not_is b e)

is_same : (a : Bool) → same_bool a a ≡ true
is_same true = refl
is_same false = refl

le_true : (m n : ℕ) → m ≤ n → nat_le m n ≡ true
le_true m n le = grind (arith, le)

lt_true : (m n : ℕ) → m < n → nat_lt m n ≡ true
lt_true m n lt = grind (arith, lt)

eq_true : (m n : ℕ) → m ≡ n → (m == n) ≡ true
eq_true m n e = grind (arith, e)

-- ---- retentions

mode_is : (m n : Mode) → is_mode m n ≡ true → m ≡ n
mode_is Governance Governance e = refl
mode_is Compliance Compliance e = refl
mode_is Governance Compliance e = absurd (cc e)
mode_is Compliance Governance e = absurd (cc e)

mode_itself : (m : Mode) → is_mode m m ≡ true
mode_itself Governance = refl
mode_itself Compliance = refl

retention_is : (a b : Option Retention) → same_retention a b ≡ true → a ≡ b
retention_is None None e = refl
retention_is None (Some s) e = absurd (cc e)
retention_is (Some r) None e = absurd (cc e)
retention_is (Some r) (Some s) e =
    let parts = and_parts (is_mode r.mode s.mode) (r.until == s.until) e in
    let mode = mode_is r.mode s.mode parts.0 in
    let until : r.until ≡ s.until = eqb-true r.until s.until parts.1 in
    ap (λ (m : Mode). Some (record { mode = m; until = r.until })) mode ∙ ap (λ (u : ℕ). Some (record { mode = s.mode; until = u })) until

retention_itself : (a : Option Retention) → same_retention a a ≡ true
retention_itself None = refl
retention_itself (Some r) = and_of (is_mode r.mode r.mode) (r.until == r.until) (mode_itself r.mode) (eq_true r.until r.until refl)

-- ---- decisions

gives_is : (b : Bool) (p : Result Permit Denial) → gives b p ≡ true → ((p ≡ Ok Free) × (b ≡ false)) ⊎ ((p ≡ Ok Bypass) × (b ≡ true))
gives_is b (Ok Free) e = inl (refl, not_is b e)
gives_is b (Ok Bypass) e = inr (refl, e)
gives_is b (Err d) e = absurd (cc e)

retained : (o : Option Retention) (new : Retention) (t : ℕ) (asked allowed : Bool) (p : Permit) → permit_instead (in_force o t) new asked allowed ≡ Ok p → Retained o new t allowed p
retained o new t asked allowed p e =
    let P : Result Permit Denial → Type 0 = λ r. IfOk (permitted r) (Retained o new t allowed) in subst P e (retainable-is o new t asked allowed)

kept_is : (v : Vault) (old : Lock) (s : Setting) (new : Retention) (t : ℕ) → gives s.bypass (retainable old new t s.bypass (has_bypass (caller_of v s.by))) ≡ true → (KeepsRetention old.retention new t × (s.bypass ≡ false)) ⊎ (LowersGovernance old.retention new t × (s.bypass ≡ true) × MayBypass v s.by)
kept_is v old s new t e = by_permit (gives_is s.bypass (retainable old new t s.bypass (has_bypass (caller_of v s.by))) e)
  where
    by_permit : ((retainable old new t s.bypass (has_bypass (caller_of v s.by)) ≡ Ok Free) × (s.bypass ≡ false)) ⊎ ((retainable old new t s.bypass (has_bypass (caller_of v s.by)) ≡ Ok Bypass) × (s.bypass ≡ true)) → (KeepsRetention old.retention new t × (s.bypass ≡ false)) ⊎ (LowersGovernance old.retention new t × (s.bypass ≡ true) × MayBypass v s.by)
    by_permit (inl free) = inl (retained old.retention new t s.bypass (has_bypass (caller_of v s.by)) Free free.0, free.1)
    by_permit (inr by) =
        let may = retained old.retention new t s.bypass (has_bypass (caller_of v s.by)) Bypass by.0 in
        inr (may.0, by.1, may.1)

free_by : (old new : Retention) (t : ℕ) (b asked allowed : Bool) → is_in_force old t ≡ b → KeepsRetention (Some old) new t → permit_instead (if b then Some old else None) new asked allowed ≡ Ok Free
free_by old new t true asked allowed e kept = rw (is-keeps old new (kept (ltb-true t old.until e))) refl
free_by old new t false asked allowed e kept = refl

is_free : (o : Option Retention) (new : Retention) (t : ℕ) (asked allowed : Bool) → KeepsRetention o new t → permit_instead (in_force o t) new asked allowed ≡ Ok Free
is_free None new t asked allowed kept = refl
is_free (Some old) new t asked allowed kept = free_by old new t (is_in_force old t) asked allowed refl kept

lower_mode : (m : Mode) → denial.Governance ≡ denial_of m → permit_to_lower m true true ≡ Ok Bypass
lower_mode Governance e = refl
lower_mode Compliance e = absurd (cc e)

keeps_then : (old new : Retention) (t : ℕ) → keeps old new ≡ true → KeepsRetention (Some old) new t
keeps_then old new t e =
    let parts = and_parts (is_mode old.mode new.mode) (nat_le old.until new.until) e in
    λ force. (sym (mode_is old.mode new.mode parts.0), leb-true old.until new.until parts.1)

lowered_if : (old new : Retention) (t : ℕ) (b : Bool) → keeps old new ≡ b → denial.Governance ≡ denial_of old.mode → (KeepsRetention (Some old) new t → ⊥) → (if b then Ok Free else permit_to_lower old.mode true true) ≡ Ok Bypass
lowered_if old new t true e mode lowers = absurd (lowers (keeps_then old new t e))
lowered_if old new t false e mode lowers = lower_mode old.mode mode

is_lowered : (o : Option Retention) (new : Retention) (t : ℕ) → LowersGovernance o new t → permit_instead (in_force o t) new true true ≡ Ok Bypass
is_lowered None new t lowers = absurd (lowers.0)
is_lowered (Some old) new t lowers = rw (lt_true t old.until lowers.0.0) (lowered_if old new t (keeps old new) refl lowers.0.1 lowers.1)

gives_kept : (v : Vault) (old : Lock) (s : Setting) (new : Retention) (t : ℕ) → (KeepsRetention old.retention new t × (s.bypass ≡ false)) ⊎ (LowersGovernance old.retention new t × (s.bypass ≡ true) × MayBypass v s.by) → gives s.bypass (retainable old new t s.bypass (has_bypass (caller_of v s.by))) ≡ true
gives_kept v old s new t (inl free) = rw (is_free old.retention new t s.bypass (has_bypass (caller_of v s.by)) free.0, free.1) refl
gives_kept v old s new t (inr by) = rw (by.1, by.2, is_lowered old.retention new t by.0) refl

-- ---- a setting

retains_is : (v : Vault) (t : ℕ) (old : Lock) (s : Setting) (o : Option Retention) → s.lock.retention ≡ o → retains_by v t old s o ≡ true → IsRetentionSetting v t old s
retains_is v t old s None given e = absurd (cc e)
retains_is v t old s (Some new) given e =
    let first = and_parts (nat_lt t new.until) (same_bool s.lock.hold old.hold && gives s.bypass (retainable old new t s.bypass (has_bypass (caller_of v s.by)))) e in
    let second = and_parts (same_bool s.lock.hold old.hold) (gives s.bypass (retainable old new t s.bypass (has_bypass (caller_of v s.by)))) first.1 in
    record { new = new; given = given; later = ltb-true t new.until first.0; hold = same_is s.lock.hold old.hold second.0; kept = kept_is v old s new t second.1 }

is_retains : (v : Vault) (t : ℕ) (old : Lock) (s : Setting) → IsRetentionSetting v t old s → retains v t old s ≡ true
is_retains v t old s is =
    let P : Option Retention → Type 0 = λ o. retains_by v t old s o ≡ true in
    let Q : Bool → Type 0 = λ b. same_bool s.lock.hold b ≡ true in
    subst P (sym is.given)
    (and_of (nat_lt t is.new.until) (same_bool s.lock.hold old.hold && gives s.bypass (retainable old is.new t s.bypass (has_bypass (caller_of v s.by)))) (lt_true t is.new.until is.later)
    (and_of (same_bool s.lock.hold old.hold) (gives s.bypass (retainable old is.new t s.bypass (has_bypass (caller_of v s.by)))) (subst Q is.hold (is_same s.lock.hold)) (gives_kept v old s is.new t is.kept)))

holds_is : (old : Lock) (s : Setting) → holds old s ≡ true → IsHoldSetting old s
holds_is old s e =
    let parts = and_parts (same_retention s.lock.retention old.retention) (not s.bypass) e in
    (retention_is s.lock.retention old.retention parts.0, not_is s.bypass parts.1)

is_holds : (old : Lock) (s : Setting) → IsHoldSetting old s → holds old s ≡ true
is_holds old s is =
    let Q : Option Retention → Type 0 = λ o. same_retention s.lock.retention o ≡ true in
    and_of (same_retention s.lock.retention old.retention) (not s.bypass) (subst Q is.0 (retention_itself s.lock.retention)) (is_not s.bypass is.1)

permitted_is : (v : Vault) (t : ℕ) (old : Lock) (s : Setting) → is_permitted v t old s ≡ true → IsPermittedSetting v t s.by old s
permitted_is v t old s e = (refl, by_kind (or_is (retains v t old s) (holds old s) e))
  where
    by_kind : (retains v t old s ≡ true) ⊎ (holds old s ≡ true) → IsRetentionSetting v t old s ⊎ IsHoldSetting old s
    by_kind (inl a) = inl (retains_is v t old s s.lock.retention refl a)
    by_kind (inr b) = inr (holds_is old s b)

is_permitted-by : (v : Vault) (t : ℕ) (old : Lock) (s : Setting) → IsRetentionSetting v t old s ⊎ IsHoldSetting old s → is_permitted v t old s ≡ true
is_permitted-by v t old s (inl a) = or_left (retains v t old s) (holds old s) (is_retains v t old s a)
is_permitted-by v t old s (inr b) = or_right (retains v t old s) (holds old s) (is_holds old s b)

by_right_is : (v : Vault) (t : ℕ) (old : Lock) (s : Setting) → is_by_right v t old s ≡ true → IsSetByRight v t old s
by_right_is v t old s e = by_kind (or_is (retains v t old s && has_right right.Retain (caller_of v s.by)) (holds old s && has_right right.Hold (caller_of v s.by)) e)
  where
    by_kind : ((retains v t old s && has_right right.Retain (caller_of v s.by)) ≡ true) ⊎ ((holds old s && has_right right.Hold (caller_of v s.by)) ≡ true) → IsSetByRight v t old s
    by_kind (inl a) =
        let parts = and_parts (retains v t old s) (has_right right.Retain (caller_of v s.by)) a in
        inl (retains_is v t old s s.lock.retention refl parts.0, parts.1)
    by_kind (inr b) =
        let parts = and_parts (holds old s) (has_right right.Hold (caller_of v s.by)) b in
        inr (holds_is old s parts.0, parts.1)

is_by_right-by : (v : Vault) (t : ℕ) (old : Lock) (s : Setting) → IsSetByRight v t old s → is_by_right v t old s ≡ true
is_by_right-by v t old s (inl a) =
    or_left (retains v t old s && has_right right.Retain (caller_of v s.by)) (holds old s && has_right right.Hold (caller_of v s.by))
    (and_of (retains v t old s) (has_right right.Retain (caller_of v s.by)) (is_retains v t old s a.0) a.1)
is_by_right-by v t old s (inr b) =
    or_right (retains v t old s && has_right right.Retain (caller_of v s.by)) (holds old s && has_right right.Hold (caller_of v s.by))
    (and_of (holds old s) (has_right right.Hold (caller_of v s.by)) (is_holds old s b.0) b.1)

-- ---- the settings

author_is : (by : Author) (who : List ℕ) → is_author by who ≡ true → by ≡ author.Caller who
author_is (author.Caller name) who e = ap author.Caller ((bytes_eq-Decides name who).0 e)
author_is (author.Rule rule) who e = absurd (cc e)

is_author-by : (by : Author) (who : List ℕ) → by ≡ author.Caller who → is_author by who ≡ true
is_author-by by who e =
    let P : Author → Type 0 = λ b. is_author b who ≡ true in subst P (sym e) ((bytes_eq-Decides who who).1 refl)

hold_is : (hold may : Bool) → (not hold || may) ≡ true → hold ≡ true → may ≡ true
hold_is true may e on = e
hold_is false may e on = absurd (cc on)

is_hold : (hold may : Bool) → (hold ≡ true → may ≡ true) → (not hold || may) ≡ true
is_hold true may on = on refl
is_hold false may on = refl

later_is : (t : ℕ) (o : Option Retention) → ends_after t o ≡ true → EndsAfter t o
later_is t None e = tt
later_is t (Some r) e = ltb-true t r.until e

is_later : (t : ℕ) (o : Option Retention) → EndsAfter t o → ends_after t o ≡ true
is_later t None is = refl
is_later t (Some r) is = lt_true t r.until is

first_is : (v : Vault) (admitted : ℕ) (by : Author) (s : Setting) → Pass (first_tests v admitted by s) → IsLawfulFirst v admitted by s
first_is v admitted by s all = record {
  now = eqb-true s.at admitted all.0;
  free = not_is s.bypass all.1.0;
  first_by = (author_is by s.by all.1.1.0, λ on. hold_is s.lock.hold (has_right right.Hold (caller_of v s.by)) all.1.1.1.1.0 on);
  later = later_is admitted s.lock.retention all.1.1.1.0;
}

is_first : (v : Vault) (admitted : ℕ) (by : Author) (s : Setting) → IsLawfulFirst v admitted by s → Pass (first_tests v admitted by s)
is_first v admitted by s is =
    (eq_true s.at admitted is.now, (is_not s.bypass is.free, (is_author-by by s.by is.first_by.0, (is_later admitted s.lock.retention is.later, (is_hold s.lock.hold (has_right right.Hold (caller_of v s.by)) is.first_by.1, tt)))))

after_is : (v : Vault) (s : Setting) (ss : List Setting) → Pass (after_tests v s ss) → AreLawfulAfter v s ss
after_is v s [] all = tt
after_is v s (n ∷ ns) all =
    let parts = parts_pass (next_tests v s n) (after_tests v n ns) all in
    (record { in_order = leb-true s.at n.at parts.0.0; permitted = permitted_is v n.at s.lock n parts.0.1.0; by = by_right_is v n.at s.lock n parts.0.1.1.0 }, after_is v n ns parts.1)

is_after : (v : Vault) (s : Setting) (ss : List Setting) → AreLawfulAfter v s ss → Pass (after_tests v s ss)
is_after v s [] all = tt
is_after v s (n ∷ ns) all =
    both_pass (next_tests v s n) (after_tests v n ns)
    (le_true s.at n.at all.0.in_order, (is_permitted-by v n.at s.lock n all.0.permitted.1, (is_by_right-by v n.at s.lock n all.0.by, tt)))
    (is_after v n ns all.1)

settings_is : (v : Vault) (admitted : ℕ) (by : Author) (ss : List Setting) → Pass (settings_tests v admitted by ss) → AreLawful v admitted by ss
settings_is v admitted by [] all = tt
settings_is v admitted by (s ∷ ss) all =
    let parts = parts_pass (first_tests v admitted by s) (after_tests v s ss) all in
    (first_is v admitted by s parts.0, after_is v s ss parts.1)

is_settings : (v : Vault) (admitted : ℕ) (by : Author) (ss : List Setting) → AreLawful v admitted by ss → Pass (settings_tests v admitted by ss)
is_settings v admitted by [] all = tt
is_settings v admitted by (s ∷ ss) all =
    both_pass (first_tests v admitted by s) (after_tests v s ss) (is_first v admitted by s all.0) (is_after v s ss all.1)

-- ---- the end

admitter_is : (v : Vault) (marker : Bool) (by : Author) → is_admitter v marker by ≡ true → IsAdmitter v marker by
admitter_is v false (author.Caller name) e = e
admitter_is v false (author.Rule rule) e = absurd (cc e)
admitter_is v true (author.Caller name) e = e
admitter_is v true (author.Rule rule) e = tt

is_admitter-by : (v : Vault) (marker : Bool) (by : Author) → IsAdmitter v marker by → is_admitter v marker by ≡ true
is_admitter-by v false (author.Caller name) is = is
is_admitter-by v false (author.Rule rule) is = absurd is
is_admitter-by v true (author.Caller name) is = is
is_admitter-by v true (author.Rule rule) is = refl

own_is : (dept : List ℕ) (o : Option (List ℕ)) → is_own o dept ≡ true → o ≡ Some dept
own_is dept None e = absurd (cc e)
own_is dept (Some own) e = ap (λ (d : List ℕ). Some d) ((bytes_eq-Decides own dept).0 e)

is_own-by : (dept : List ℕ) (o : Option (List ℕ)) → o ≡ Some dept → is_own o dept ≡ true
is_own-by dept o is =
    let P : Option (List ℕ) → Type 0 = λ d. is_own d dept ≡ true in subst P (sym is) ((bytes_eq-Decides dept dept).1 refl)

department_is : (v : Vault) (marker : Bool) (by : Author) (ts : List Tenure) → is_of_department v marker by ts ≡ true → IsOfDepartment v marker by ts
department_is v false (author.Caller name) [] e = absurd (cc e)
department_is v false (author.Caller name) (t ∷ ts) e = own_is t.dept (department_of v name) e
department_is v false (author.Rule rule) ts e = absurd (cc e)
department_is v true (author.Caller name) ts e = e
department_is v true (author.Rule rule) ts e = tt

is_department-by : (v : Vault) (marker : Bool) (by : Author) (ts : List Tenure) → IsOfDepartment v marker by ts → is_of_department v marker by ts ≡ true
is_department-by v false (author.Caller name) [] is = absurd is
is_department-by v false (author.Caller name) (t ∷ ts) is = is_own-by t.dept (department_of v name) is
is_department-by v false (author.Rule rule) ts is = absurd is
is_department-by v true (author.Caller name) ts is = is
is_department-by v true (author.Rule rule) ts is = refl

remover_is : (v : Vault) (c : Cause) → is_remover v c ≡ true → IsCausedByRight v c
remover_is v (cause.Request name) e = e
remover_is v (cause.Bypass name) e = e
remover_is v (cause.Rule rule) e = tt

is_remover-by : (v : Vault) (c : Cause) → IsCausedByRight v c → is_remover v c ≡ true
is_remover-by v (cause.Request name) is = is
is_remover-by v (cause.Bypass name) is = is
is_remover-by v (cause.Rule rule) is = refl

under : (gs : List Denial) (asked allowed : Bool) (p : Permit) → permit_under gs asked allowed ≡ Ok p → Permitted gs allowed p
under gs asked allowed p e =
    let P : Result Permit Denial → Type 0 = λ r. IfOk (permitted r) (Permitted gs allowed) in subst P e (permit_under-is gs asked allowed)

unguarded_is : (gs : List Denial) → gives false (permit_under gs false false) ≡ true → gs ≡ []
unguarded_is gs e = by_permit (gives_is false (permit_under gs false false) e)
  where
    by_permit : ((permit_under gs false false ≡ Ok Free) × (false ≡ false)) ⊎ ((permit_under gs false false ≡ Ok Bypass) × (false ≡ true)) → gs ≡ []
    by_permit (inl free) = under gs false false Free free.0
    by_permit (inr by) = absurd (cc (by.1))

bypassed_is : (gs : List Denial) (allowed : Bool) → gives true (permit_under gs true allowed) ≡ true → (gs ≡ denial.Governance ∷ []) × (allowed ≡ true)
bypassed_is gs allowed e = by_permit (gives_is true (permit_under gs true allowed) e)
  where
    by_permit : ((permit_under gs true allowed ≡ Ok Free) × (true ≡ false)) ⊎ ((permit_under gs true allowed ≡ Ok Bypass) × (true ≡ true)) → (gs ≡ denial.Governance ∷ []) × (allowed ≡ true)
    by_permit (inl free) = absurd (cc (free.1))
    by_permit (inr by) = under gs true allowed Bypass by.0

removal_is : (v : Vault) (lock : Lock) (t : ℕ) (c : Cause) → is_permitted_removal v lock t c ≡ true → IsPermittedUnder v (guards lock t) c
removal_is v lock t (cause.Request who) e = unguarded_is (guards lock t) e
removal_is v lock t (cause.Bypass who) e = bypassed_is (guards lock t) (has_bypass (caller_of v who)) e
removal_is v lock t (cause.Rule rule) e = unguarded_is (guards lock t) e

is_unguarded : (gs : List Denial) → gs ≡ [] → gives false (permit_under gs false false) ≡ true
is_unguarded gs e = let P : List Denial → Type 0 = λ l. gives false (permit_under l false false) ≡ true in subst P (sym e) refl

is_bypassed : (gs : List Denial) (allowed : Bool) → gs ≡ denial.Governance ∷ [] → allowed ≡ true → gives true (permit_under gs true allowed) ≡ true
is_bypassed gs allowed e may =
    let P : List Denial → Type 0 = λ l. gives true (permit_under l true allowed) ≡ true in
    let Q : Bool → Type 0 = λ b. gives true (permit_under (denial.Governance ∷ []) true b) ≡ true in
    subst P (sym e) (subst Q (sym may) refl)

is_removal : (v : Vault) (lock : Lock) (t : ℕ) (c : Cause) → IsPermittedUnder v (guards lock t) c → is_permitted_removal v lock t c ≡ true
is_removal v lock t (cause.Request who) is = is_unguarded (guards lock t) is
is_removal v lock t (cause.Bypass who) is = is_bypassed (guards lock t) (has_bypass (caller_of v who)) is.0 is.1
is_removal v lock t (cause.Rule rule) is = is_unguarded (guards lock t) is

end_is : (v : Vault) (from : ℕ) (lock : Lock) (o : Option Removal) → Pass (end_tests v from lock o) → IsLawfulEnd v from lock o
end_is v from lock None all = leb-true from v.last all.0
end_is v from lock (Some r) all =
    (leb-true from r.at all.0, leb-true r.at v.last all.1.0, removal_is v lock r.at r.cause all.1.1.0, remover_is v r.cause all.1.1.1.0)

is_end : (v : Vault) (from : ℕ) (lock : Lock) (o : Option Removal) → IsLawfulEnd v from lock o → Pass (end_tests v from lock o)
is_end v from lock None is = (le_true from v.last is, tt)
is_end v from lock (Some r) is =
    (le_true from r.at is.0, (le_true r.at v.last is.1, (is_removal v lock r.at r.cause is.2, (is_remover-by v r.cause is.3, tt))))

-- ---- a history

rules_pass : (v : Vault) (h : History) → IsLawful v h → Pass (rule_tests v h.entry h.settings h.tenures)
rules_pass v h is = (
  and_of (is_admitter v h.entry.marker h.entry.by) (is_of_department v h.entry.marker h.entry.by h.tenures) (is_admitter-by v h.entry.marker h.entry.by is.admitter) (is_department-by v h.entry.marker h.entry.by h.tenures is.department),
  both_pass (settings_tests v h.entry.admitted h.entry.by h.settings) (end_tests v (last_at h.entry.admitted h.settings) (last_lock h.settings) h.entry.removal)
      (is_settings v h.entry.admitted h.entry.by h.settings is.settings)
      (is_end v (last_at h.entry.admitted h.settings) (last_lock h.settings) h.entry.removal is.end),
)

rules_are : (v : Vault) (h : History) → Pass (rule_tests v h.entry h.settings h.tenures) → IsLawful v h
rules_are v h all =
    let rest = parts_pass (settings_tests v h.entry.admitted h.entry.by h.settings) (end_tests v (last_at h.entry.admitted h.settings) (last_lock h.settings) h.entry.removal) all.1 in
    let who = and_parts (is_admitter v h.entry.marker h.entry.by) (is_of_department v h.entry.marker h.entry.by h.tenures) all.0 in
    record {
      admitter = admitter_is v h.entry.marker h.entry.by who.0;
      department = department_is v h.entry.marker h.entry.by h.tenures who.1;
      settings = settings_is v h.entry.admitted h.entry.by h.settings rest.0;
      end = end_is v (last_at h.entry.admitted h.settings) (last_lock h.settings) h.entry.removal rest.1;
    }

-- the tests beside other entries
abbrev beside_tests : (ℕ → Option Move) → List History → History → List Test
beside_tests seen before h = move_tests seen h.entry.bucket h.tenures ++ department_tests before h

pub breach-lawful : (v : Vault) (seen : ℕ → Option Move) (before : List History) (h : History) → breach v seen before h ≡ None → IsLawful v h × (are_as_seen seen h.entry.bucket h.tenures ≡ true) × AllByRecursion (λ g. Agree g h) before
breach-lawful v seen before h e =
    let parts = parts_pass (rule_tests v h.entry h.settings h.tenures) (beside_tests seen before h) (all_pass (tests v seen before h) e) in
    (rules_are v h parts.0, parts.1.0, agrees_is before h parts.1.1.0)

pub lawful-breach : (v : Vault) (seen : ℕ → Option Move) (before : List History) (h : History) → IsLawful v h → are_as_seen seen h.entry.bucket h.tenures ≡ true → AllByRecursion (λ g. Agree g h) before → breach v seen before h ≡ None
lawful-breach v seen before h is as_seen agree =
    none_fails (tests v seen before h) (both_pass (rule_tests v h.entry h.settings h.tenures) (beside_tests seen before h) (rules_pass v h is) (as_seen, (is_agrees before h agree, tt)))
