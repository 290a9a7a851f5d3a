-- The keys of a bucket rise by their bytes, and what stands after one of them.
use Rattle.std.proofs.Common.{◌≡◌, ℕ, ◌++◌, ◌||◌, Bool, true, false, List, [], ◌∷◌, length, refl, sym, ap, subst, ◌∙◌}
use Rattle.std.specs.Prelude.{filter, flat_map, if◌then◌else◌, ◌==◌}
use Rattle.std.specs.List.{AllByRecursion}
use Rattle.std.specs.Str.{bytes_eq}
use Rattle.std.specs.Ordering.{nat_cmp, is_gt, ordering_reverse}
use Rattle.std.specs.declared.cmp.Ordering.{Ordering}
use Rattle.std.specs.declared.cmp.Ordering.TheVariants.{Less, Equal, Greater}
use Rattle.std.specs.Cmp.Lexicographic.{slice_cmp}
use Rattle.std.proofs.lemmas.Cmp.{nat_list_cmp_total, tied_itself}
use Rattle.std.proofs.lemmas.Map.Text.{is_eq-slice_cmp}
use Rattle.std.proofs.lemmas.Map.Lookups.{exact_bytes}
use Rattle.vault_core_model.specs.Places.{comes_after, key_set, with_key, with_key_by}
use Rattle.vault_core_model.specs.Order.{IsAscending}
use Rattle.vault_core_laws.proofs.Tests.{swapped}

abbrev pub cmp : List ℕ → List ℕ → Ordering
cmp j k = slice_cmp nat_cmp j k

flip_greater : (j k : List ℕ) → cmp j k ≡ Greater → cmp k j ≡ Less
flip_greater j k e = nat_list_cmp_total.antisymm k j ∙ ap ordering_reverse e

flip_less : (j k : List ℕ) → cmp j k ≡ Less → cmp k j ≡ Greater
flip_less j k e = nat_list_cmp_total.antisymm k j ∙ ap ordering_reverse e

greater_trans : (j k l : List ℕ) → cmp j k ≡ Greater → cmp k l ≡ Greater → cmp j l ≡ Greater
greater_trans j k l e f = flip_less l j (nat_list_cmp_total.trans l k j (flip_greater k l f) (flip_greater j k e))

-- ---- rising keys

-- k comes before each of these
abbrev pub IsUnder : List ℕ → List (List ℕ) → Type 0
IsUnder k js = AllByRecursion (λ j. cmp k j ≡ Less) js

abbrev pub IsRising : List (List ℕ) → Type 0
IsRising ks = IsAscending cmp ks

under_lower : (j k : List ℕ) (ks : List (List ℕ)) → cmp j k ≡ Less → IsUnder k ks → IsUnder j ks
under_lower j k [] lt under = tt
under_lower j k (x ∷ xs) lt under = (nat_list_cmp_total.trans j k x lt under.0, under_lower j k xs lt under.1)

under-with : (j k : List ℕ) (ks : List (List ℕ)) → cmp j k ≡ Less → IsUnder j ks → IsUnder j (with_key k ks)
under-with j k [] lt under = (lt, tt)
under-with j k (x ∷ xs) lt under =
    elim (cmp k x) as (λ o. IsUnder j (with_key_by o k x xs (with_key k xs))) [
      | Less ↦ (lt, under)
      | Equal ↦ under
      | Greater ↦ (under.0, under-with j k xs lt under.1)
    ]

rising-with : (k : List ℕ) (ks : List (List ℕ)) → IsRising ks → IsRising (with_key k ks)
rising-with k [] rising = (tt, tt)
rising-with k (x ∷ xs) rising = by_order (cmp k x) refl (rising-with k xs rising.1)
  where
    by_order : (o : Ordering) → cmp k x ≡ o → IsRising (with_key k xs) → IsRising (with_key_by o k x xs (with_key k xs))
    by_order Less e rest = ((e, under_lower k x xs e rising.0), rising)
    by_order Equal e rest = rising
    by_order Greater e rest = (under-with x k xs (flip_greater k x e) rising.0, rest)

pub rising_set : (ks : List (List ℕ)) → IsRising (key_set ks)
rising_set [] = tt
rising_set (k ∷ ks) = rising-with k (key_set ks) (rising_set ks)

under-filter : (p : List ℕ → Bool) (k : List ℕ) (ks : List (List ℕ)) → IsUnder k ks → IsUnder k (filter p ks)
under-filter p k [] under = tt
under-filter p k (x ∷ xs) under =
    elim (p x) as (λ b. IsUnder k (if b then x ∷ filter p xs else filter p xs))
    [ true ↦ (under.0, under-filter p k xs under.1) | false ↦ under-filter p k xs under.1 ]

pub rising-filter : (p : List ℕ → Bool) (ks : List (List ℕ)) → IsRising ks → IsRising (filter p ks)
rising-filter p [] rising = tt
rising-filter p (k ∷ ks) rising =
    elim (p k) as (λ b. IsRising (if b then k ∷ filter p ks else filter p ks))
    [ true ↦ (under-filter p k ks rising.0, rising-filter p ks rising.1) | false ↦ rising-filter p ks rising.1 ]

-- ---- keys above one

abbrev pub IsOver : List ℕ → List (List ℕ) → Type 0
IsOver a [] = Unit {0}
IsOver a (k ∷ ks) = (cmp k a ≡ Greater) × IsOver a ks

over_own : (k : List ℕ) (ks : List (List ℕ)) → IsUnder k ks → IsOver k ks
over_own k [] under = tt
over_own k (x ∷ xs) under = (flip_less k x under.0, over_own k xs under.1)

over_lower : (a k : List ℕ) (ks : List (List ℕ)) → cmp k a ≡ Greater → IsOver k ks → IsOver a ks
over_lower a k [] gt over = tt
over_lower a k (x ∷ xs) gt over = (greater_trans x k a over.0 gt, over_lower a k xs gt over.1)

abbrev pub above : List ℕ → List (List ℕ) → List (List ℕ)
above a ks = filter (λ k. is_gt (cmp k a)) ks

above-over : (a : List ℕ) (ks : List (List ℕ)) → IsOver a ks → above a ks ≡ ks
above-over a [] over = refl
above-over a (k ∷ ks) over = rw over.0 (ap (λ (l : List (List ℕ)). k ∷ l) (above-over a ks over.1))

-- k is one of these
abbrev pub is_among : List ℕ → List (List ℕ) → Bool
is_among k [] = false
is_among k (j ∷ js) = bytes_eq j k || is_among k js

not_among : (a : List ℕ) (ks : List (List ℕ)) → IsOver a ks → is_among a ks ≡ false
not_among a [] over = refl
not_among a (k ∷ ks) over = rw (← is_eq-slice_cmp k a, over.0) (not_among a ks over.1)

-- ---- what is listed of rising keys: nothing before a, what a gives, and what the keys above it give
pub split_at : {X : Type 0} (f : List ℕ → List X) (a : List ℕ) (ks : List (List ℕ)) → IsRising ks
    → ((k : List ℕ) → cmp k a ≡ Less → f k ≡ []) → (is_among a ks ≡ false → f a ≡ [])
    → flat_map f ks ≡ f a ++ flat_map f (above a ks)
split_at f a [] rising before absent = rw (absent refl) refl
split_at f a (k ∷ ks) rising before absent = by_order (cmp k a) refl (split_at f a ks rising.1 before)
  where
    by_order : (o : Ordering) → cmp k a ≡ o → ((is_among a ks ≡ false → f a ≡ []) → flat_map f ks ≡ f a ++ flat_map f (above a ks)) → f k ++ flat_map f ks ≡ f a ++ flat_map f (if is_gt o then k ∷ above a ks else above a ks)
    by_order Less e rest =
        let gone : is_among a ks ≡ false → f a ≡ [] = λ none. absent (rw (← is_eq-slice_cmp k a, e) none) in
        rw (before k e) (rest gone)
    by_order Equal e rest =
        let same : k ≡ a = exact_bytes k a e in
        let P : List ℕ → Type 0 = λ x. f k ++ flat_map f ks ≡ f x ++ flat_map f (above x ks) in
        subst P same (rw (above-over k ks (over_own k ks rising.0)) refl)
    by_order Greater e rest =
        let over : IsOver a (k ∷ ks) = (e, over_lower a k ks e (over_own k ks rising.0)) in
        rw (absent (not_among a (k ∷ ks) over), above-over a ks over.1) refl

-- ---- pages of keys

under_it : (w : List ℕ) (zs : List (List ℕ)) (x : List ℕ) (ys : List (List ℕ)) → IsUnder w (zs ++ x ∷ ys) → cmp w x ≡ Less
under_it w [] x ys under = under.0
under_it w (z ∷ zs) x ys under = under_it w zs x ys under.1

above-front : (xs : List (List ℕ)) (x : List ℕ) (ys : List (List ℕ)) → IsRising (xs ++ x ∷ ys) → above x (xs ++ x ∷ ys) ≡ ys
above-front [] x ys rising = rw (tied_itself nat_list_cmp_total x) (above-over x ys (over_own x ys rising.0))
above-front (w ∷ xs) x ys rising = rw (under_it w xs x ys rising.0) (above-front xs x ys rising.1)

through : (p q : List ℕ → Bool) (ks : List (List ℕ)) → ((k : List ℕ) → q k ≡ true → p k ≡ true) → filter q (filter p ks) ≡ filter q ks
through p q [] implies = refl
through p q (k ∷ ks) implies = by_test (p k) refl (q k) refl (through p q ks implies)
  where
    by_test : (b : Bool) → p k ≡ b → (c : Bool) → q k ≡ c → filter q (filter p ks) ≡ filter q ks → filter q (if b then k ∷ filter p ks else filter p ks) ≡ (if c then k ∷ filter q ks else filter q ks)
    by_test true e true f rest = rw f (ap (λ (l : List (List ℕ)). k ∷ l) rest)
    by_test true e false f rest = rw f rest
    by_test false e true f rest = absurd (cc (implies k f))
    by_test false e false f rest = rest

gt_is : (o : Ordering) → is_gt o ≡ true → o ≡ Greater
gt_is Less e = absurd (cc e)
gt_is Equal e = absurd (cc e)
gt_is Greater e = refl

after_trans : (k x a : List ℕ) → is_gt (cmp k x) ≡ true → comes_after x a ≡ true → comes_after k a ≡ true
after_trans k x a above after = by_length (length a == 0) after
  where
    by_length : (b : Bool) → (b || is_gt (cmp x a)) ≡ true → (b || is_gt (cmp k a)) ≡ true
    by_length true e = refl
    by_length false e = rw (greater_trans k x a (gt_is (cmp k x) above) (gt_is (cmp x a) e)) refl

kept_pass : (p : List ℕ → Bool) (k : List ℕ) (rest : List (List ℕ)) (b : Bool) → p k ≡ b → AllByRecursion (λ j. p j ≡ true) rest → AllByRecursion (λ j. p j ≡ true) (if b then k ∷ rest else rest)
kept_pass p k rest true e all = (e, all)
kept_pass p k rest false e all = all

passes : (p : List ℕ → Bool) (ks : List (List ℕ)) → AllByRecursion (λ k. p k ≡ true) (filter p ks)
passes p [] = tt
passes p (k ∷ ks) = kept_pass p k (filter p ks) (p k) refl (passes p ks)

pick : (P : List ℕ → Type 0) (xs : List (List ℕ)) (x : List ℕ) (ys : List (List ℕ)) → AllByRecursion P (xs ++ x ∷ ys) → P x
pick P [] x ys all = all.0
pick P (w ∷ xs) x ys all = pick P xs x ys all.1

-- after the last key of a page stand the keys of the pages after it
pub after_page : (ks : List (List ℕ)) (a : List ℕ) (xs : List (List ℕ)) (x : List ℕ) (ys : List (List ℕ)) → IsRising ks
    → filter (λ k. comes_after k a) ks ≡ xs ++ x ∷ ys → (length x == 0) ≡ false
    → filter (λ k. comes_after k x) ks ≡ ys
after_page ks a xs x ys rising page named =
    let there : comes_after x a ≡ true = pick (λ k. comes_after k a ≡ true) xs x ys (subst (AllByRecursion (λ k. comes_after k a ≡ true)) page (passes (λ k. comes_after k a) ks)) in
    let thin : above x (filter (λ k. comes_after k a) ks) ≡ above x ks = through (λ k. comes_after k a) (λ k. is_gt (cmp k x)) ks (λ k gt. after_trans k x a gt there) in
    let rest : above x (xs ++ x ∷ ys) ≡ ys = above-front xs x ys (subst IsRising page (rising-filter (λ k. comes_after k a) ks rising)) in
    ap (λ (b : Bool). filter (λ k. b || is_gt (cmp k x)) ks) named ∙ sym thin ∙ ap (above x) page ∙ rest

-- ---- keys that are there

among-with : (a k : List ℕ) (ks : List (List ℕ)) → is_among a (with_key k ks) ≡ (bytes_eq k a || is_among a ks)
among-with a k [] = refl
among-with a k (x ∷ xs) = by_order (cmp k x) refl (among-with a k xs)
  where
    same : (b c : Bool) → (b || c) ≡ (b || (b || c))
    same true c = refl
    same false c = refl

    by_order : (o : Ordering) → cmp k x ≡ o → is_among a (with_key k xs) ≡ (bytes_eq k a || is_among a xs) → is_among a (with_key_by o k x xs (with_key k xs)) ≡ (bytes_eq k a || (bytes_eq x a || is_among a xs))
    by_order Less e rest = refl
    by_order Equal e rest = let P : List ℕ → Type 0 = λ y. (bytes_eq x a || is_among a xs) ≡ (bytes_eq y a || (bytes_eq x a || is_among a xs)) in subst P (sym (exact_bytes k x e)) (same (bytes_eq x a) (is_among a xs))
    by_order Greater e rest = ap (λ b. bytes_eq x a || b) rest ∙ swapped (bytes_eq x a) (bytes_eq k a) (is_among a xs)

pub among-set : (a k : List ℕ) (ks : List (List ℕ)) → is_among a (key_set (k ∷ ks)) ≡ (bytes_eq k a || is_among a (key_set ks))
among-set a k ks = among-with a k (key_set ks)

-- ---- keys after one

after_one : (last : List ℕ) (ks : List (List ℕ)) → (length last == 0) ≡ false → AllByRecursion (λ k. comes_after k last ≡ true) ks → IsOver last ks
after_one last [] named all = tt
after_one last (k ∷ ks) named all =
    (gt_is (cmp k last) (sym (ap (λ b. b || is_gt (cmp k last)) named) ∙ all.0), after_one last ks named all.1)

pub over_after : (last : List ℕ) (ks : List (List ℕ)) → (length last == 0) ≡ false → IsOver last (filter (λ k. comes_after k last) ks)
over_after last ks named = after_one last (filter (λ k. comes_after k last) ks) named (passes (λ k. comes_after k last) ks)

pub greater : (j k : List ℕ) → is_gt (cmp j k) ≡ true → cmp j k ≡ Greater
greater j k e = gt_is (cmp j k) e
