-- Records that are apart, put into their order.
use Rattle.std.proofs.Common.{◌≡◌, List, [], ◌∷◌, Ordering, Less, Equal, Greater, IsPermutation}
use Rattle.std.specs.List.{AllByRecursion}
use Rattle.std.specs.Cmp.{IsTotalOrder}
use Rattle.std.proofs.lemmas.List.Sorted.{IsPermutation-refl, IsPermutation-cons, IsPermutation-trans, IsPermutation-middle}
use Rattle.vault_core_model.specs.Order.{IsAscending, placed, placed_by}
use Rattle.vault_core_laws.proofs.Lists.{All-placed}
use Rattle.vault_core_laws.proofs.NameOrder.{IsApart, ascending-placed}

module _ {A : Type 0} (cmp : A → A → Ordering) where
  -- the records in their order
  abbrev pub in_order : List A → List A
  in_order [] = []
  in_order (x ∷ xs) = placed cmp x (in_order xs)

  -- none of them ties with one after it
  abbrev pub AreApart : List A → Type 0
  AreApart [] = Unit {0}
  AreApart (x ∷ xs) = IsApart cmp x xs × AreApart xs

  swapped : (x y : A) (ys : List A) → IsPermutation (y ∷ x ∷ ys) (x ∷ y ∷ ys)
  swapped x y ys = IsPermutation-middle (y ∷ []) x ys

  same_placed : (x : A) (ys : List A) → IsPermutation (placed cmp x ys) (x ∷ ys)
  same_placed x [] = IsPermutation-refl (x ∷ [])
  same_placed x (y ∷ ys) =
      elim (cmp x y) as (λ o. IsPermutation (placed_by o x y ys (placed cmp x ys)) (x ∷ y ∷ ys)) [
        | Less ↦ IsPermutation-refl (x ∷ y ∷ ys)
        | Equal ↦ IsPermutation-refl (x ∷ y ∷ ys)
        | Greater ↦ IsPermutation-trans _ _ _ (IsPermutation-cons y _ _ (same_placed x ys)) (swapped x y ys)
      ]

  pub same_in_order : (xs : List A) → IsPermutation (in_order xs) xs
  same_in_order [] = IsPermutation-refl []
  same_in_order (x ∷ xs) = IsPermutation-trans _ _ _ (same_placed x (in_order xs)) (IsPermutation-cons x _ _ (same_in_order xs))

  pub all_in_order : (P : A → Type 0) (xs : List A) → AllByRecursion P xs → AllByRecursion P (in_order xs)
  all_in_order P [] all = tt
  all_in_order P (x ∷ xs) all = All-placed P cmp x (in_order xs) all.0 (all_in_order P xs all.1)

  pub ascending_in_order : IsTotalOrder cmp → (xs : List A) → AreApart xs → IsAscending cmp (in_order xs)
  ascending_in_order total [] apart = tt
  ascending_in_order total (x ∷ xs) apart = ascending-placed cmp total x (in_order xs) (all_in_order (λ y. cmp x y ≡ Equal → ⊥) xs apart.0) (ascending_in_order total xs apart.1)
