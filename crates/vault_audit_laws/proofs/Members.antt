-- What stands in a list, and when two lists in one order in which the same stands are one list.
use Rattle.std.proofs.Common.{◌≡◌, inl, inr, ℕ, ◌+◌, ◌<◌, List, [], ◌∷◌, map, flat_map, Ordering, Less, Equal, nat_cmp, IsPermutation, refl, sym, ap, subst, ◌∙◌, arith}
use Rattle.std.specs.List.{AllByRecursion}
use Rattle.std.specs.Ordering.{on, ordering_reverse}
use Rattle.std.specs.Cmp.{IsTotalOrder}
use Rattle.std.proofs.lemmas.Cmp.{tied_itself, nat_cmp_total, on_total}
use Rattle.std.proofs.lemmas.Bool.Decides.{nat_tests}
use Rattle.std.proofs.lemmas.List.Sorted.{IsPermutation-sym}
use Rattle.sqlite_trees.proofs.ListLemmas.{all-permutation}
use Rattle.sqlite_rules.specs.Lists.{Has}
use Rattle.sqlite_rules.proofs.ListLemmas.{all_has, all_from, has_left, has_right, has_either}
use Rattle.sqlite_rules.proofs.ProbeLemmas.{has_mapped, mapped_has}
use Rattle.vault_core_model.specs.Order.{IsAscending}

-- whatever stands in the one stands in the other
abbrev pub IsWithin : {A : Type 0} → List A → List A → Type 0
IsWithin {A} xs ys = (x : A) → Has xs x → Has ys x

pub permuted_within : {A : Type 0} (xs ys : List A) → IsPermutation xs ys → IsWithin ys xs
permuted_within xs ys same x = all_has (Has xs) ys x (all-permutation (Has xs) xs ys same (all_from (Has xs) xs (λ z h. h)))

-- ---- lists that are made of others

module _ {A B : Type 0} where
  pub part_has : (f : A → List B) (z : B) (x : A) (xs : List A) → Has xs x → Has (f x) z → Has (flat_map f xs) z
  part_has f z x [] h part = elim h [ ]
  part_has f z x (y ∷ ys) (inl e) part = has_left (f y) (flat_map f ys) z (subst (λ w. Has (f w) z) e part)
  part_has f z x (y ∷ ys) (inr h) part = has_right (f y) (flat_map f ys) z (part_has f z x ys h part)

  pub has_part : (f : A → List B) (z : B) (xs : List A) → Has (flat_map f xs) z → (x : A) × Has xs x × Has (f x) z
  has_part f z [] h = elim h [ ]
  has_part f z (y ∷ ys) h = elim (has_either (f y) (flat_map f ys) z h) [
    | inl here ↦ (y, inl refl, here)
    | inr later ↦ (let it = has_part f z ys later in (it.0, inr it.1, it.2))
  ]

  -- of records that give the same rows, in any order, each has its match
  pub matched : (f : A → B) (xs ys : List A) (rows : List B) → IsPermutation (map f xs) rows → IsPermutation (map f ys) rows → (x : A) → Has xs x → (y : A) × Has ys y × (f x ≡ f y)
  matched f xs ys rows given same x h =
      has_mapped f ys (f x) (permuted_within (map f ys) rows same (f x) (permuted_within rows (map f xs) (IsPermutation-sym (map f xs) rows given) (f x) (mapped_has f xs x h)))

  -- and stands there itself, where a row holds one record
  pub within_by_rows : (f : A → B) → ((x y : A) → f x ≡ f y → x ≡ y) → (xs ys : List A) (rows : List B) → IsPermutation (map f xs) rows → IsPermutation (map f ys) rows → IsWithin xs ys
  within_by_rows f one xs ys rows given same x h = let it = matched f xs ys rows given same x h in subst (Has ys) (sym (one x it.0 it.2)) it.1

-- ---- lists in order

module _ {A : Type 0} (cmp : A → A → Ordering) (total : IsTotalOrder cmp) where
  -- no two that tie
  pub tied_same : (xs : List A) → IsAscending cmp xs → (x y : A) → Has xs x → Has xs y → cmp x y ≡ Equal → x ≡ y
  tied_same [] ascending x y there here tie = elim there [ ]
  tied_same (z ∷ zs) ascending x y (inl e) (inl f) tie = e ∙ sym f
  tied_same (z ∷ zs) ascending x y (inl e) (inr here) tie =
      absurd (let before : cmp x y ≡ Less = subst (λ a. cmp a y ≡ Less) (sym e) (all_has (λ b. cmp z b ≡ Less) zs y ascending.0 here) in cc (sym before ∙ tie))
  tied_same (z ∷ zs) ascending x y (inr there) (inl f) tie =
      absurd (let before : cmp y x ≡ Less = subst (λ a. cmp a x ≡ Less) (sym f) (all_has (λ b. cmp z b ≡ Less) zs x ascending.0 there) in cc (sym tie ∙ total.antisymm x y ∙ ap ordering_reverse before))
  tied_same (z ∷ zs) ascending x y (inr there) (inr here) tie = tied_same zs ascending.1 x y there here tie

  same_head : (x y : A) (xs ys : List A) → IsAscending cmp (x ∷ xs) → IsAscending cmp (y ∷ ys) → Has (y ∷ ys) x → Has (x ∷ xs) y → x ≡ y
  same_head x y xs ys first second (inl e) there = e
  same_head x y xs ys first second (inr here) (inl e) = sym e
  same_head x y xs ys first second (inr here) (inr there) =
      absurd (let one : cmp y x ≡ Less = all_has (λ z. cmp y z ≡ Less) ys x second.0 here in
      let other : cmp x y ≡ Less = all_has (λ z. cmp x z ≡ Less) xs y first.0 there in cc (sym other ∙ total.antisymm x y ∙ ap ordering_reverse one))

  within_tail : (x y : A) (xs ys : List A) → x ≡ y → IsAscending cmp (x ∷ xs) → IsWithin (x ∷ xs) (y ∷ ys) → IsWithin xs ys
  within_tail x y xs ys e ascending within z h = elim (within z (inr h)) [
    | inl is ↦ absurd (let before : cmp x z ≡ Less = all_has (λ a. cmp x a ≡ Less) xs z ascending.0 h in
        let itself : cmp x x ≡ Less = subst (λ a. cmp x a ≡ Less) (is ∙ sym e) before in cc (sym itself ∙ tied_itself total x))
    | inr there ↦ there
  ]

  pub same_ascending : (xs ys : List A) → IsAscending cmp xs → IsAscending cmp ys → IsWithin xs ys → IsWithin ys xs → xs ≡ ys
  same_ascending [] [] first second there back = refl
  same_ascending [] (y ∷ ys) first second there back = elim (back y (inl refl)) [ ]
  same_ascending (x ∷ xs) [] first second there back = elim (there x (inl refl)) [ ]
  same_ascending (x ∷ xs) (y ∷ ys) first second there back =
      let e : x ≡ y = same_head x y xs ys first second (there x (inl refl)) (back y (inl refl)) in
      let tails : xs ≡ ys = same_ascending xs ys first.1 second.1 (within_tail x y xs ys e first there) (within_tail y x ys xs (sym e) second back) in
      subst (λ z. x ∷ xs ≡ z ∷ ys) e (ap (λ zs. x ∷ zs) tails)

-- ---- lists that are numbered

pub less : (a b : ℕ) → a < b → nat_cmp a b ≡ Less
less a b h = grind (arith, nat_tests)

module _ {A : Type 0} (number_of : A → ℕ) where
  -- the numbers are n, n + 1, n + 2 and so on
  abbrev pub AreNumberedFrom : ℕ → List A → Type 0
  AreNumberedFrom n [] = Unit {0}
  AreNumberedFrom n (x ∷ xs) = (number_of x ≡ n) × AreNumberedFrom (n + 1) xs

  all_above : (a n : ℕ) (xs : List A) → a < n → AreNumberedFrom n xs → AllByRecursion (λ x. nat_cmp a (number_of x) ≡ Less) xs
  all_above a n [] low all = tt
  all_above a n (x ∷ xs) low all = (less a (number_of x) (omega (arith, all.0)), all_above a (n + 1) xs (omega arith) all.1)

  pub ascending_numbered : (n : ℕ) (xs : List A) → AreNumberedFrom n xs → IsAscending (on number_of nat_cmp) xs
  ascending_numbered n [] all = tt
  ascending_numbered n (x ∷ xs) all = (all_above (number_of x) (n + 1) xs (omega (arith, all.0)) all.1, ascending_numbered (n + 1) xs all.1)

  pub by_number_total : IsTotalOrder (on number_of nat_cmp)
  by_number_total = on_total number_of nat_cmp_total

-- ---- parts that name what they are of

module _ {X R K : Type 0} (key : X → K) (key_of_part : R → K) (parts : X → List R) (own : (x : X) (r : R) → Has (parts x) r → key_of_part r ≡ key x) where
  -- what has the same parts in all, and one record for each key, has the same parts at each key
  pub same_parts : (xs ys : List X) → ((x y : X) → Has ys x → Has ys y → key x ≡ key y → x ≡ y) → IsWithin (flat_map parts xs) (flat_map parts ys) → (x y : X) → Has xs x → Has ys y → key x ≡ key y → IsWithin (parts x) (parts y)
  same_parts xs ys one within x y in_xs in_ys same r part =
      let it = has_part parts r ys (within r (part_has parts r x xs in_xs part)) in
      let e : it.0 ≡ y = one it.0 y it.1 in_ys (sym (own it.0 r it.2) ∙ own x r part ∙ same) in
      subst (λ z. Has (parts z) r) e it.2
