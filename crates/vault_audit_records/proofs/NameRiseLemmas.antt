-- Records whose rows begin with their names, one after the other.
use Rattle.std.proofs.Common.{◌≡◌, ℕ, List, [], ◌∷◌, map, Option, Some, None, Less, ◌∙◌}
use Rattle.std.specs.List.{AllByRecursion}
use Rattle.std.proofs.lemmas.Cmp.{nat_list_cmp_total}
use Rattle.sqlite_value.specs.Order.{Row}
use Rattle.sqlite_trees.specs.Tree.{IsAscending as Rises}
use Rattle.vault_core_model.specs.Order.{IsAscending, name_cmp}
use Rattle.vault_audit_rows.specs.Pass.{AllFit}
use Rattle.vault_audit_rows.proofs.ScanLemmas.{first_cmp}
use Rattle.vault_audit_model.specs.Relations.{IsAfter}

module _ {X : Type 0} (row_of : X → Row) (name_of : X → List ℕ) (Is : X → Type 0) (first : (x y : X) → first_cmp (row_of x) (row_of y) ≡ name_cmp (name_of x) (name_of y)) where
  abbrev Next : Option (List ℕ) → X → Type 0
  Next before x = Is x × IsAfter before (name_of x)

  abbrev name_with : Option (List ℕ) → X → Option (List ℕ)
  name_with before x = Some (name_of x)

  abbrev Fit : Option (List ℕ) → List X → Type 0
  Fit = AllFit row_of Next name_with

  still_later : (a b : List ℕ) (xs : List X) → name_cmp a b ≡ Less → AllByRecursion (λ x. name_cmp b (name_of x) ≡ Less) xs → AllByRecursion (λ x. name_cmp a (name_of x) ≡ Less) xs
  still_later a b [] low all = tt
  still_later a b (x ∷ xs) low all = (nat_list_cmp_total.trans a b (name_of x) low all.0, still_later a b xs low all.1)

  later : (name : List ℕ) (xs : List X) → Fit (Some name) xs → AllByRecursion (λ x. name_cmp name (name_of x) ≡ Less) xs
  later name [] fit = tt
  later name (x ∷ xs) fit = (fit.0.1, still_later name (name_of x) xs fit.0.1 (later (name_of x) xs fit.1))

  pub ascending : (p : Option (List ℕ)) (xs : List X) → Fit p xs → IsAscending (λ a b. name_cmp (name_of a) (name_of b)) xs
  ascending p [] fit = tt
  ascending p (x ∷ xs) fit = (later (name_of x) xs fit.1, ascending (Some (name_of x)) xs fit.1)

  pub in_limits : (p : Option (List ℕ)) (xs : List X) → Fit p xs → AllByRecursion Is xs
  in_limits p [] fit = tt
  in_limits p (x ∷ xs) fit = (fit.0.0, in_limits (Some (name_of x)) xs fit.1)

  as_rows : (x : X) (xs : List X) → AllByRecursion (λ y. name_cmp (name_of x) (name_of y) ≡ Less) xs → AllByRecursion (λ row. first_cmp (row_of x) row ≡ Less) (map row_of xs)
  as_rows x [] all = tt
  as_rows x (y ∷ ys) all = (first x y ∙ all.0, as_rows x ys all.1)

  pub rise : (p : Option (List ℕ)) (xs : List X) → Fit p xs → Rises (λ a b. first_cmp a b ≡ Less) (map row_of xs)
  rise p [] fit = tt
  rise p (x ∷ xs) fit = (as_rows x xs (later (name_of x) xs fit.1), rise (Some (name_of x)) xs fit.1)

  past : (p : Option (List ℕ)) (xs : List X) → AllByRecursion (λ x. IsAfter p (name_of x)) xs → IsAscending (λ a b. name_cmp (name_of a) (name_of b)) xs → AllByRecursion Is xs → Fit p xs
  past p [] after order all = tt
  past p (x ∷ xs) after order all = ((all.0, after.0), past (Some (name_of x)) xs order.0 order.1 all.1)

  none_before : (xs : List X) → AllByRecursion (λ x. IsAfter None (name_of x)) xs
  none_before [] = tt
  none_before (x ∷ xs) = (tt, none_before xs)

  pub fitting : (xs : List X) → IsAscending (λ a b. name_cmp (name_of a) (name_of b)) xs → AllByRecursion Is xs → Fit None xs
  fitting xs order all = past None xs (none_before xs) order all
