-- The rows of buckets and of rules that come one after the other rise.
use Rattle.std.proofs.Common.{◌≡◌, ◌<◌, ◌≤◌, ◌+◌, ◌⊎◌, ◌==◌, inl, inr, ℕ, pos, cond, List, [], ◌∷◌, ◌++◌, length, map, Bool, true, false, Option, Some, Less, Equal, refl, sym, ap, subst, ◌∙◌, arith}
use Rattle.std.specs.List.{AllByRecursion}
use Rattle.std.proofs.lemmas.Bool.Decides.{nat_tests}
use Rattle.std.proofs.lemmas.Cmp.{nat_list_cmp_total, tied_itself}
use Rattle.std.proofs.lemmas.List.{length-append}
use Rattle.sqlite_value.proofs.OrderLemmas.{value_cmp-Int, value_cmp-Text}
use Rattle.sqlite_trees.specs.Tree.{IsAscending}
use Rattle.vault_core_model.specs.Order.{name_cmp}
use Rattle.vault_rules.specs.declared.rule.Rule.{Rule}
use Rattle.vault_audit_model.specs.declared.rows.BucketRow.{BucketRow}
use Rattle.vault_audit_model.specs.declared.rows.RuleRow.{RuleRow}
use Rattle.vault_audit_model.specs.Rows.{bucket_row, rule_row}
use Rattle.vault_audit_model.proofs.ValueLemmas.{int_less}
use Rattle.vault_audit_rows.specs.Pass.{AllFit, after}
use Rattle.vault_audit_rows.proofs.ScanLemmas.{first_cmp}
use Rattle.vault_audit_rows.proofs.PairLemmas.{pair_cmp}
use Rattle.vault_audit_records.specs.RulesByPlace.{RulesSoFar, IsAfter, IsNextBucket, with_bucket, IsNext, ComesNext, with_rule}

abbrev pub FitBuckets : Option (List ℕ) → List BucketRow → Type 0
FitBuckets = AllFit bucket_row IsNextBucket with_bucket

abbrev pub FitRules : RulesSoFar → List RuleRow → Type 0
FitRules = AllFit rule_row ComesNext with_rule

abbrev pub end_of : RulesSoFar → List RuleRow → RulesSoFar
end_of = after rule_row ComesNext with_rule

pub names_rise : (a b c : List ℕ) → name_cmp a b ≡ Less → name_cmp b c ≡ Less → name_cmp a c ≡ Less
names_rise a b c p q = nat_list_cmp_total.trans a b c p q

-- ---- buckets

still_later : (a b : List ℕ) (bs : List BucketRow) → name_cmp a b ≡ Less → AllByRecursion (λ c. name_cmp b c.name ≡ Less) bs → AllByRecursion (λ c. name_cmp a c.name ≡ Less) bs
still_later a b [] low all = tt
still_later a b (c ∷ bs) low all = (names_rise a b c.name low all.0, still_later a b bs low all.1)

pub later_buckets : (name : List ℕ) (bs : List BucketRow) → FitBuckets (Some name) bs → AllByRecursion (λ b. name_cmp name b.name ≡ Less) bs
later_buckets name [] fit = tt
later_buckets name (b ∷ bs) fit = (fit.0.1, still_later name b.name bs fit.0.1 (later_buckets b.name bs fit.1))

as_rows : (b : BucketRow) (bs : List BucketRow) → AllByRecursion (λ c. name_cmp b.name c.name ≡ Less) bs → AllByRecursion (λ row. first_cmp (bucket_row b) row ≡ Less) (map bucket_row bs)
as_rows b [] all = tt
as_rows b (c ∷ bs) all = (value_cmp-Text b.name c.name ∙ all.0, as_rows b bs all.1)

pub buckets_rise : (p : Option (List ℕ)) (bs : List BucketRow) → FitBuckets p bs → IsAscending (λ a b. first_cmp a b ≡ Less) (map bucket_row bs)
buckets_rise p [] fit = tt
buckets_rise p (b ∷ bs) fit = (as_rows b bs (later_buckets b.name bs fit.1), buckets_rise (Some b.name) bs fit.1)

-- ---- rules

pub grown : (p : RulesSoFar) (r : RuleRow) → IsNext p r → length (with_rule p r).rules ≡ r.place
grown p r (inl (same, place)) = by (r.place == 1) refl
  where
    by : (b : Bool) → (r.place == 1) ≡ b → length (cond b (r.rule ∷ []) (p.rules ++ r.rule ∷ [])) ≡ r.place
    by true is = grind (arith, nat_tests)
    by false is = length-append p.rules (r.rule ∷ []) ∙ sym place
grown p r (inr (up, place)) = rw place refl

-- the state after a rule that goes on, and after one that begins a bucket
abbrev run_of : RuleRow → List Rule → RulesSoFar
run_of r rules = record { bucket = Some r.bucket; rules = rules }

pub joined : (p : RulesSoFar) (r : RuleRow) → r.place ≡ length p.rules + 1 → run_of r (p.rules ++ r.rule ∷ []) ≡ with_rule p r
joined p r place = by (r.place == 1) refl
  where
    none : (rs : List Rule) → 1 ≡ length rs + 1 → rs ++ r.rule ∷ [] ≡ r.rule ∷ []
    none [] e = refl
    none (x ∷ rs) e = absurd (omega (arith, e))

    by : (b : Bool) → (r.place == 1) ≡ b → run_of r (p.rules ++ r.rule ∷ []) ≡ run_of r (cond b (r.rule ∷ []) (p.rules ++ r.rule ∷ []))
    by true is =
        let one : r.place ≡ 1 = grind (arith, nat_tests) in
        ap (run_of r) (none p.rules (sym one ∙ place))
    by false is = refl

pub begun : (p : RulesSoFar) (r : RuleRow) → r.place ≡ 1 → run_of r (r.rule ∷ []) ≡ with_rule p r
begun p r place = rw place refl

-- one that is below the last place of a bucket
abbrev IsBefore : RuleRow → List ℕ → ℕ → Type 0
IsBefore x name count = (name_cmp x.bucket name ≡ Less) ⊎ ((x.bucket ≡ name) × (x.place ≤ count))

abbrev IsBelow : RuleRow → RuleRow → Type 0
IsBelow x y = (name_cmp x.bucket y.bucket ≡ Less) ⊎ ((x.bucket ≡ y.bucket) × (x.place < y.place))

rules_less : (x y : RuleRow) → IsBelow x y → pair_cmp (rule_row x) (rule_row y) ≡ Less
rules_less x y (inl low) = rw (value_cmp-Text x.bucket y.bucket, low) refl
rules_less x y (inr (same, low)) =
    let tied : name_cmp x.bucket y.bucket ≡ Equal = subst (λ n. name_cmp x.bucket n ≡ Equal) same (tied_itself nat_list_cmp_total x.bucket) in
    rw (value_cmp-Text x.bucket y.bucket, tied, value_cmp-Int (pos x.place) (pos y.place), int_less x.place y.place low) refl

below_next : (x : RuleRow) (name : List ℕ) (p : RulesSoFar) (y : RuleRow) → p.bucket ≡ Some name → IsBefore x name (length p.rules) → IsNext p y → IsBelow x y
below_next x name p y is low (inl (same, place)) = go low
  where
    here : name ≡ y.bucket
    here = let e : Some name ≡ Some y.bucket = sym is ∙ same in cc

    go : IsBefore x name (length p.rules) → IsBelow x y
    go (inl less) = inl (subst (λ n. name_cmp x.bucket n ≡ Less) here less)
    go (inr (tied, less)) = inr (tied ∙ here, omega (arith, less, place))
below_next x name p y is low (inr (up, place)) = go low
  where
    here : name_cmp name y.bucket ≡ Less
    here = subst (λ o. IsAfter o y.bucket) is up.0

    go : IsBefore x name (length p.rules) → IsBelow x y
    go (inl less) = inl (names_rise x.bucket name y.bucket less here)
    go (inr (tied, less)) = inl (subst (λ n. name_cmp n y.bucket ≡ Less) (sym tied) here)

as_before : (x y : RuleRow) (count : ℕ) → count ≡ y.place → IsBelow x y → IsBefore x y.bucket count
as_before x y count same (inl low) = inl low
as_before x y count same (inr (tied, low)) = inr (tied, omega (arith, low, same))

above : (x : RuleRow) (name : List ℕ) (p : RulesSoFar) (xs : List RuleRow) → p.bucket ≡ Some name → IsBefore x name (length p.rules) → FitRules p xs → AllByRecursion (λ row. pair_cmp (rule_row x) row ≡ Less) (map rule_row xs)
above x name p [] is low fit = tt
above x name p (y ∷ xs) is low fit =
    let here = below_next x name p y is low fit.0.1 in
    (rules_less x y here, above x y.bucket (with_rule p y) xs refl (as_before x y (length (with_rule p y).rules) (grown p y fit.0.1) here) fit.1)

pub rules_rise : (p : RulesSoFar) (xs : List RuleRow) → FitRules p xs → IsAscending (λ a b. pair_cmp a b ≡ Less) (map rule_row xs)
rules_rise p [] fit = tt
rules_rise p (x ∷ xs) fit =
    let count = grown p x fit.0.1 in
    (above x x.bucket (with_rule p x) xs refl (inr (refl, omega (arith, count))) fit.1, rules_rise (with_rule p x) xs fit.1)
