-- The keys of some entries, each once, at their places.
use Rattle.std.proofs.Common.{◌≡◌, ℕ, ◌+◌, ◌<◌, List, [], ◌∷◌, length, map, filter, insert, take, reverse, get_or, Bool, true, false, Some, suc, refl, ap, sym, ◌∙◌, arith}
use Rattle.std.proofs.lemmas.List.{take_more, reverse-append}
use Rattle.std.proofs.lemmas.Cmp.{nat_list_eq_equiv}
use Rattle.std.proofs.lemmas.Map.Text.{is_eq-slice_cmp}
use Rattle.std.specs.Cmp.Lexicographic.{slice_cmp}
use Rattle.std.specs.List.{prefix_len, slice_get}
use Rattle.std.specs.Option.{option_eq}
use Rattle.std.specs.Ordering.{is_eq, is_gt, nat_cmp}
use Rattle.std.specs.Prelude.{if◌then◌else◌}
use Rattle.std.specs.Str.{bytes_eq}
use Rattle.std.specs.declared.cmp.Ordering.TheVariants.{Less, Equal, Greater}
use Rattle.vault_core_model.specs.declared.records.History.{History}
use Rattle.vault_core_model.specs.Places.{key_set, with_key, with_key_by}

-- how many of the keys come before k
abbrev pub place_of : List ℕ → List (List ℕ) → ℕ
place_of k xs = prefix_len (λ x. is_gt (slice_cmp nat_cmp k x)) xs

-- whether k stands at that place
abbrev pub is_at : List ℕ → List (List ℕ) → ℕ → Bool
is_at k xs n = option_eq bytes_eq (slice_get xs n) (Some k)

same_key : (k x : List ℕ) → bytes_eq x k ≡ is_eq (slice_cmp nat_cmp k x)
same_key k x = nat_list_eq_equiv.symm x k ∙ sym (is_eq-slice_cmp k x)

-- a key that isn't at its place is new, and goes there
pub insert-with_key : (k : List ℕ) (xs : List (List ℕ)) → is_at k xs (place_of k xs) ≡ false → insert xs (place_of k xs) k ≡ with_key k xs
insert-with_key k [] new = refl
insert-with_key k (x ∷ xs) new =
    let later : 1 + place_of k xs ≡ suc (place_of k xs) = omega arith in
    elim (slice_cmp nat_cmp k x) as (λ o. slice_cmp nat_cmp k x ≡ o → is_at k (x ∷ xs) (if is_gt o then 1 + place_of k xs else 0) ≡ false → insert (x ∷ xs) (if is_gt o then 1 + place_of k xs else 0) k ≡ with_key_by o k x xs (with_key k xs)) [
      | Less ↦ λ _ _. refl
      | Equal ↦ λ same new. let e : false ≡ true = sym new ∙ same_key k x ∙ ap is_eq same in absurd (cc)
      | Greater ↦ λ _ new. rw later (ap (λ rest. x ∷ rest) (insert-with_key k xs (rw later at new)))
    ] refl new

-- a key that is at its place was there before
pub known-with_key : (k : List ℕ) (xs : List (List ℕ)) → is_at k xs (place_of k xs) ≡ true → xs ≡ with_key k xs
known-with_key k [] known = absurd (cc)
known-with_key k (x ∷ xs) known =
    let later : 1 + place_of k xs ≡ suc (place_of k xs) = omega arith in
    elim (slice_cmp nat_cmp k x) as (λ o. slice_cmp nat_cmp k x ≡ o → is_at k (x ∷ xs) (if is_gt o then 1 + place_of k xs else 0) ≡ true → x ∷ xs ≡ with_key_by o k x xs (with_key k xs)) [
      | Less ↦ λ less known. let e : false ≡ true = sym (same_key k x ∙ ap is_eq less) ∙ known in absurd (cc)
      | Equal ↦ λ _ _. refl
      | Greater ↦ λ _ known. ap (λ rest. x ∷ rest) (known-with_key k xs (rw later at known))
    ] refl known

-- the keys of those that pass
abbrev pub keys_of_those : (History → Bool) → List History → List (List ℕ)
keys_of_those p hs = key_set (map (λ h. h.entry.key) (filter p hs))

-- from the end, an entry more of those that pass
pub keys-more : (p : History → Bool) (hs : List History) (n : ℕ) (h : History) → n < length hs → h ≡ get_or hs n h → p h ≡ true → keys_of_those p (reverse (take (n + 1) hs)) ≡ with_key h.entry.key (keys_of_those p (reverse (take n hs)))
keys-more p hs n h lt is passes = rw (take_more hs n h lt, ← is, reverse-append (take n hs) (h ∷ []), passes) refl

-- from the end, an entry more of the others
pub keys-other : (p : History → Bool) (hs : List History) (n : ℕ) (h : History) → n < length hs → h ≡ get_or hs n h → p h ≡ false → keys_of_those p (reverse (take (n + 1) hs)) ≡ keys_of_those p (reverse (take n hs))
keys-other p hs n h lt is other = rw (take_more hs n h lt, ← is, reverse-append (take n hs) (h ∷ []), other) refl
