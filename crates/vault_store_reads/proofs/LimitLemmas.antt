-- Facts of each element of a list, where it is taken, found or turned around.
use Rattle.std.proofs.Common.{◌≡◌, ℕ, zero, suc, ◌<◌, List, [], ◌∷◌, ◌++◌, length, map, find, take, reverse, get_or, Bool, true, false, cond, Some, Option, option_to_list, IsPermutation, slice_get, sym, subst, arith}
use Rattle.std.specs.Prelude.{option_and_then}
use Rattle.std.specs.List.{AllByRecursion}
use Rattle.std.proofs.lemmas.List.Sorted.{IsPermutation-reverse}
use Rattle.sqlite_trees.proofs.ListLemmas.{all-permutation}
use Rattle.sqlite_value.specs.Order.{Row}
use Rattle.vault_audit_rows.specs.Records.{ReportsOne}
use Rattle.vault_store_reads.proofs.ListLemmas.{first_of}
use Rattle.vault_store_reads.proofs.OrderedListLemmas.{last, part_of}
use Rattle.sqlite_rules.proofs.ListLemmas.{all_has}

-- ---- what holds of each element

module _ {A : Type 0} (P : A → Type 0) where
  pub at_place : (xs : List A) (i : ℕ) (x : A) → AllByRecursion P xs → i < length xs → x ≡ get_or xs i x → P x
  at_place [] i x all low is = absurd (omega (arith, low))
  at_place (y ∷ ys) zero x all low is = subst P (sym is) all.0
  at_place (y ∷ ys) (suc i) x all low is = at_place ys i x all.1 (omega (arith, low)) is

  pub at_first : (xs : List A) (x : A) → AllByRecursion P xs → slice_get xs 0 ≡ Some x → P x
  at_first [] x all first = absurd (cc first)
  at_first (y ∷ ys) x all first = let same : y ≡ x = cc first in subst P same all.0

  -- one that stands between two lists
  pub at_seam : (xs : List A) (x : A) (ys : List A) → AllByRecursion P ((xs ++ x ∷ []) ++ ys) → P x
  at_seam [] x ys all = all.0
  at_seam (z ∷ zs) x ys all = at_seam zs x ys all.1

  pub all_found : (test : A → Bool) (xs : List A) → AllByRecursion P xs → AllByRecursion P (option_to_list (find test xs))
  all_found test [] all = tt
  all_found test (x ∷ xs) all = elim (test x) as (λ b. AllByRecursion P (option_to_list (cond b (Some x) (find test xs)))) [
    | true ↦ (all.0, tt)
    | false ↦ all_found test xs all.1
  ]

  pub all_taken : (n : ℕ) (xs : List A) → AllByRecursion P xs → AllByRecursion P (take n xs)
  all_taken zero xs all = tt
  all_taken (suc n) [] all = tt
  all_taken (suc n) (x ∷ xs) all = (all.0, all_taken n xs all.1)

  pub all_reversed : (xs : List A) → AllByRecursion P xs → AllByRecursion P (reverse xs)
  all_reversed xs all = all-permutation P xs (reverse xs) (IsPermutation-reverse xs) all

  pub all_last : (xs : List A) → AllByRecursion P xs → AllByRecursion P (option_to_list (last xs))
  all_last [] all = tt
  all_last (x ∷ []) all = (all.0, tt)
  all_last (x ∷ y ∷ ys) all = all_last (y ∷ ys) all.1

module _ {A B : Type 0} (P : B → Type 0) where
  -- of the parts of the one that is found
  pub all_part : (f : A → List B) (test : A → Bool) (xs : List A) → AllByRecursion (λ x. AllByRecursion P (f x)) xs → AllByRecursion P (part_of f (find test xs))
  all_part f test [] all = tt
  all_part f test (x ∷ xs) all = elim (test x) as (λ b. AllByRecursion P (part_of f (cond b (Some x) (find test xs)))) [
    | true ↦ all.0
    | false ↦ all_part f test xs all.1
  ]

  pub all_given : (f : A → Option B) (test : A → Bool) (xs : List A) → AllByRecursion (λ x. AllByRecursion P (option_to_list (f x))) xs → AllByRecursion P (option_to_list (option_and_then f (find test xs)))
  all_given f test [] all = tt
  all_given f test (x ∷ xs) all = elim (test x) as (λ b. AllByRecursion P (option_to_list (option_and_then f (cond b (Some x) (find test xs))))) [
    | true ↦ all.0
    | false ↦ all_given f test xs all.1
  ]

-- the first row of such records is that of one in its limits
pub first_limited : {X : Type 0} (row_of : X → Row) (Is : X → Type 0) (xs : List X) (rows : List Row) (row : Row) → AllByRecursion Is xs → IsPermutation (map row_of xs) rows → slice_get rows 0 ≡ Some row → ReportsOne row_of Is row
first_limited row_of Is xs rows row all same first = let it = first_of row_of xs rows row same first in (it.0, it.2, all_has Is xs it.0 all it.1)
