-- Of the tenures of one version, in the order of their numbers, the last is the one that none follows.
use Rattle.std.proofs.Common.{◌≡◌, inl, inr, ℕ, ◌<◌, ◌==◌, ◌&&◌, not, List, [], ◌∷◌, filter, Bool, true, false, option_to_list, refl, sym, ap, ◌∙◌, arith}
use Rattle.std.specs.Prelude.{nat_lt}
use Rattle.std.specs.List.{AllByRecursion, list_any}
use Rattle.std.proofs.lemmas.Bool.{cases_Bool}
use Rattle.std.proofs.lemmas.Bool.Decides.{nat_tests}
use Rattle.sqlite_trees.specs.Tree.{IsAscending}
use Rattle.sqlite_keyed.proofs.ListLemmas.{all_weaker}
use Rattle.vault_audit_model.specs.declared.rows.TenureRow.{TenureRow}
use Rattle.vault_store_reads.proofs.OrderedListLemmas.{filter_twice, last}
use Rattle.vault_store_reads.proofs.TenureLemmas.{IsBefore}

-- ---- lists

same_kept : {X : Type 0} (p q : X → Bool) (xs : List X) → AllByRecursion (λ x. p x ≡ q x) xs → filter p xs ≡ filter q xs
same_kept p q [] all = refl
same_kept p q (x ∷ xs) all = elim (cases_Bool (q x)) [
  | inl kept ↦ rw (all.0, kept) (ap (λ l. x ∷ l) (same_kept p q xs all.1))
  | inr left ↦ rw (all.0, left) (same_kept p q xs all.1)
]

-- two that agree on what passes leave the same of it
alike_kept : {X : Type 0} (p q has : X → Bool) → ((x : X) → has x ≡ true → p x ≡ q x) → (xs : List X) → filter p (filter has xs) ≡ filter q (filter has xs)
alike_kept p q has same [] = refl
alike_kept p q has same (x ∷ xs) = elim (cases_Bool (has x)) [
  | inl this ↦ elim (cases_Bool (q x)) [
    | inl kept ↦ rw (this, same x this, kept) (ap (λ l. x ∷ l) (alike_kept p q has same xs))
    | inr left ↦ rw (this, same x this, left) (alike_kept p q has same xs)
  ]
  | inr other ↦ rw other (alike_kept p q has same xs)
]

any_where : {X : Type 0} (p has test : X → Bool) → ((x : X) → p x ≡ (has x && test x)) → (xs : List X) → list_any p xs ≡ list_any test (filter has xs)
any_where p has test is [] = refl
any_where p has test is (x ∷ xs) = elim (cases_Bool (has x)) [
  | inl this ↦ rw (is x, this, any_where p has test is xs) refl
  | inr other ↦ rw (is x, other, any_where p has test is xs) refl
]

-- ---- the last by numbers

abbrev follows : TenureRow → TenureRow → Bool
follows t u = nat_lt t.tenure.number u.tenure.number

abbrev is_unfollowed : List TenureRow → TenureRow → Bool
is_unfollowed ts t = not (list_any (follows t) ts)

not_lower : (a b : ℕ) → a < b → nat_lt b a ≡ false
not_lower a b low = grind (arith, nat_tests)

itself : (n : ℕ) → nat_lt n n ≡ false
itself n = grind (arith, nat_tests)

lower : (a b : ℕ) → a < b → nat_lt a b ≡ true
lower a b low = grind (arith, nat_tests)

unfollowed_are : (ts : List TenureRow) → IsAscending IsBefore ts → filter (is_unfollowed ts) ts ≡ option_to_list (last ts)
unfollowed_are [] up = refl
unfollowed_are (t ∷ []) up = rw (itself t.tenure.number) refl
unfollowed_are (t ∷ u ∷ us) up =
    let rest = same_kept (is_unfollowed (t ∷ u ∷ us)) (is_unfollowed (u ∷ us)) (u ∷ us)
    (all_weaker (IsBefore t) (λ s. is_unfollowed (t ∷ u ∷ us) s ≡ is_unfollowed (u ∷ us) s) (λ s low. rw (not_lower t.tenure.number s.tenure.number low) refl) (u ∷ us) up.0) in
    rw (itself t.tenure.number, lower t.tenure.number u.tenure.number up.0.0) (rest ∙ unfollowed_are (u ∷ us) up.1)

-- ---- of one version among all

-- a tenure of the same version that comes after it
abbrev pub comes_after : TenureRow → TenureRow → Bool
comes_after t u = (u.id == t.id) && follows t u

-- the tenures of that version which none follows
abbrev pub is_last_of : List TenureRow → ℕ → TenureRow → Bool
is_last_of all id t = (t.id == id) && not (list_any (comes_after t) all)

same_version : (id a b : ℕ) → (a == id) ≡ true → (b == a) ≡ (b == id)
same_version id a b is = grind (arith, nat_tests)

pub last_is : (all : List TenureRow) (id : ℕ) → IsAscending IsBefore (filter (λ t. t.id == id) all) → filter (is_last_of all id) all ≡ option_to_list (last (filter (λ t. t.id == id) all))
last_is all id up =
    let has : TenureRow → Bool = λ t. t.id == id in
    let ours = filter has all in
    sym (filter_twice (λ t. not (list_any (comes_after t) all)) has all)
    ∙ alike_kept (λ t. not (list_any (comes_after t) all)) (is_unfollowed ours) has (λ t this. ap not (any_where (comes_after t) has (follows t) (λ u. ap (λ b. b && follows t u) (same_version id t.id u.id this)) all)) all
    ∙ unfollowed_are ours up
