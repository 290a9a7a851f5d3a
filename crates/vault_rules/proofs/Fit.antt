-- The rules of a bucket make due as the laws of plans ask.
use Rattle.std.proofs.Common.{◌≡◌, ℕ, ◌+◌, ◌*◌, ◌<◌, ◌≤◌, ◌&&◌, ◌++◌, Bool, true, false, nat_le, nat_lt, IsTrue, List, [], ◌∷◌, length, Option, Some, None, refl, sym, ap, ◌∙◌, arith, cond}
use Rattle.std.specs.Prelude.{not, is_none, unwrap_or}
use Rattle.std.specs.List.{All, position_from}
use Rattle.std.proofs.lemmas.List.Elements.{All-head, All-tail, All-nil, All-cons, All-weaker}
use Rattle.std.proofs.lemmas.Iterator.Adapters.{position_from-zero}
use Rattle.std.proofs.lemmas.Bool.Decides.{nat_tests}
use Rattle.vault_base.specs.Days.{day_length, midnight_from}
use Rattle.vault_base.specs.Limits.{most_rules}
use Rattle.vault_rules.specs.declared.rule.Rule.{Rule}
use Rattle.vault_rules.specs.declared.rule.Noncurrent.{Noncurrent}
use Rattle.vault_rules.specs.declared.rule_set.RuleFault.{RuleFault}
use Rattle.vault_rules.specs.declared.rule_set.RuleFault.TheVariants.{SameId, NoAction, DaysAndMarkers, OutOfRange, TooMany}
use Rattle.vault_rules.specs.Rules.{is_day_count, is_newer_count, passes_if_given, is_noncurrent_action, are_bounds, is_in_range, has_id, has_action, has_days_and_markers, fault_where, fault_of, first_of_both, first_fault, is_rule_set}
use Rattle.vault_rules.specs.Due.{fits, noncurrent_has_passed, makes_noncurrent_due}
use Rattle.vault_rules.specs.Walk.{Dues, dues}
use Rattle.vault_rules.proofs.Truth.{both}

-- a later since or a lower rank makes nothing due
abbrev pub IsFalling : Dues → Type 0
IsFalling d = (size since later rank lower : ℕ) → since ≤ later → lower ≤ rank → d.noncurrent size since rank ≡ None → d.noncurrent size later lower ≡ None

-- and nothing that became noncurrent at t is due
pub record IsFit (d : Dues) (t : ℕ) : Type 0 where
  pub falling : IsFalling d
  pub fresh : (size rank : ℕ) → d.noncurrent size t rank ≡ None

-- ---- each rule of a set names a day at least

abbrev HasDays : Option Noncurrent → Type 0
HasDays None = Unit {0}
HasDays (Some n) = 0 < n.days

abbrev IsTimed : Rule → Type 0
IsTimed r = HasDays r.noncurrent

-- no fault: neither here nor later
no_fault : (b : Bool) (f : RuleFault) (later : Option RuleFault) → IsTrue (is_none (fault_where b f later)) → (b ≡ false) × IsTrue (is_none later)
no_fault true f later h = absurd (cc)
no_fault false f later h = (refl, h)

neither : (o p : Option RuleFault) → IsTrue (is_none (first_of_both o p)) → IsTrue (is_none o) × IsTrue (is_none p)
neither None p h = (refl, h)
neither (Some f) p h = absurd (cc)

in_range : (b : Bool) → not b ≡ false → IsTrue b
in_range true h = refl
in_range false h = absurd (cc)

a_day : (n : ℕ) → IsTrue (is_day_count n) → 0 < n
a_day n h = grind (arith, nat_tests)

days_of_action : (o : Option Noncurrent) → IsTrue (passes_if_given is_noncurrent_action o) → HasDays o
days_of_action None h = tt
days_of_action (Some n) h = a_day n.days (both (is_day_count n.days) (passes_if_given is_newer_count n.newer) h).0

timed : (before : List Rule) (r : Rule) → IsTrue (is_none (fault_of before r)) → IsTimed r
timed before r h =
    let range = fault_where (not (is_in_range r)) OutOfRange None in
    let kinds = fault_where (has_days_and_markers r) DaysAndMarkers range in
    let action = fault_where (not (has_action r)) NoAction kinds in
    let e = no_fault (not (is_in_range r)) OutOfRange None (no_fault (has_days_and_markers r) DaysAndMarkers range (no_fault (not (has_action r)) NoAction kinds (no_fault (has_id before r.id) SameId action h).1).1).1 in
    let numbers = both (passes_if_given is_day_count r.days && passes_if_given is_noncurrent_action r.noncurrent) (are_bounds r.larger r.smaller) (in_range (is_in_range r) e.0) in
    days_of_action r.noncurrent (both (passes_if_given is_day_count r.days) (passes_if_given is_noncurrent_action r.noncurrent) numbers.0).1

all_timed : (before rs : List Rule) → IsTrue (is_none (first_fault before rs)) → All IsTimed rs
all_timed before [] h = All-nil IsTimed
all_timed before (r ∷ rs) h =
    let e = neither (fault_of before r) (first_fault (before ++ r ∷ []) rs) h in
    All-cons IsTimed r rs (timed before r e.0) (all_timed (before ++ r ∷ []) rs e.1)

set_timed : (rules : List Rule) → IsTrue (is_rule_set rules) → All IsTimed rules
set_timed [] h = absurd (cc)
set_timed (r ∷ rs) h = all_timed [] (r ∷ rs) (no_fault (nat_lt most_rules (length (r ∷ rs))) TooMany (first_fault [] (r ∷ rs)) h).1

-- ---- what is due

midnight_from-le : (a b : ℕ) → a ≤ b → midnight_from a ≤ midnight_from b
midnight_from-le a b h = omega arith

le-midnight_from : (a : ℕ) → a ≤ midnight_from a
le-midnight_from a = omega arith

none_passes : (p : Rule → Bool) (i : ℕ) (xs : List Rule) → All (λ x. p x ≡ false) xs → position_from p i xs ≡ None
none_passes p i [] h = refl
none_passes p i (x ∷ xs) h = ap (λ c. cond c (Some i) (position_from p (i + 1) xs)) (All-head (λ x. p x ≡ false) x xs h) ∙ none_passes p (i + 1) xs (All-tail (λ x. p x ≡ false) x xs h)

each_fails : (p : Rule → Bool) (i : ℕ) (xs : List Rule) → position_from p i xs ≡ None → All (λ x. p x ≡ false) xs
each_fails p i [] e = All-nil (λ x. p x ≡ false)
each_fails p i (x ∷ xs) e = cases (p x) refl (each_fails p (i + 1) xs)
  where
    cases : (c : Bool) → p x ≡ c → (position_from p (i + 1) xs ≡ None → All (λ x. p x ≡ false) xs) → All (λ x. p x ≡ false) (x ∷ xs)
    cases true n ih = absurd (clash (ap (λ c. cond c (Some i) (position_from p (i + 1) xs)) (sym n) ∙ e))
      where
        clash : Some i ≡ None → ⊥
        clash h = cc
    cases false n ih = All-cons (λ x. p x ≡ false) x xs n (ih (ap (λ c. cond c (Some i) (position_from p (i + 1) xs)) (sym n) ∙ e))

and_falls : (f x y : Bool) → (x ≡ false → y ≡ false) → (f && x) ≡ false → (f && y) ≡ false
and_falls true x y h e = h e
and_falls false x y h e = refl

passed_falls : (o : Option Noncurrent) (since later rank lower t : ℕ) → since ≤ later → lower ≤ rank → noncurrent_has_passed o since rank t ≡ false → noncurrent_has_passed o later lower t ≡ false
passed_falls None since later rank lower t a b e = refl
passed_falls (Some n) since later rank lower t a b e = let c : midnight_from (since + day_length * n.days) ≤ midnight_from (later + day_length * n.days) = midnight_from-le (since + day_length * n.days) (later + day_length * n.days) (omega arith) in falls (midnight_from (since + day_length * n.days)) (midnight_from (later + day_length * n.days)) (unwrap_or n.newer 0) rank lower t c b e
  where
    falls : (x y k r l t : ℕ) → x ≤ y → l ≤ r → (nat_le x t && nat_le k r) ≡ false → (nat_le y t && nat_le k l) ≡ false
    falls x y k r l t a b e = grind (arith, nat_tests)

passed_fresh : (o : Option Noncurrent) (rank t : ℕ) → HasDays o → noncurrent_has_passed o t rank t ≡ false
passed_fresh None rank t h = refl
passed_fresh (Some n) rank t h = let c : t < midnight_from (t + day_length * n.days) = omega (arith, le-midnight_from (t + day_length * n.days)) in late (midnight_from (t + day_length * n.days)) (unwrap_or n.newer 0) rank t c
  where
    late : (x k r t : ℕ) → t < x → (nat_le x t && nat_le k r) ≡ false
    late x k r t a = grind (arith, nat_tests)

and_off : (f x : Bool) → x ≡ false → (f && x) ≡ false
and_off true x e = e
and_off false x e = refl

pub fit : (rules : List Rule) (key : List ℕ) (t : ℕ) → IsTrue (is_rule_set rules) → IsFit (dues rules key t) t
fit rules key t set = record {
  falling = λ size since later rank lower a b e.
      let p = makes_noncurrent_due key size since rank t in
      let q = makes_noncurrent_due key size later lower t in
      let each = each_fails p 0 rules (sym (position_from-zero p rules) ∙ e) in
      position_from-zero q rules ∙ none_passes q 0 rules (All-weaker (λ x. p x ≡ false) (λ x. q x ≡ false) (λ x h. and_falls (fits x key size) (noncurrent_has_passed x.noncurrent since rank t) (noncurrent_has_passed x.noncurrent later lower t) (passed_falls x.noncurrent since later rank lower t a b) h) rules each);
  fresh = λ size rank.
      let q = makes_noncurrent_due key size t rank t in
      position_from-zero q rules ∙ none_passes q 0 rules (All-weaker IsTimed (λ x. q x ≡ false) (λ x h. and_off (fits x key size) (noncurrent_has_passed x.noncurrent t rank t) (passed_fresh x.noncurrent rank t h)) rules (set_timed rules set));
}
