-- What stands in a list, and lists that rise with the same in both.
use Rattle.std.specs.Ordering.{ordering_reverse}
use Rattle.std.specs.Prelude.{if◌then◌else◌}
use Rattle.std.proofs.Common.{◌≡◌, ◌⊎◌, inl, inr, ◌||◌, List, [], ◌∷◌, length, map, filter, Bool, true, false, Ordering, Less, Equal, Greater, refl, sym, ap, subst, ◌∙◌, arith}
use Rattle.std.specs.List.{AllByRecursion, list_any}
use Rattle.std.specs.Cmp.{IsTotalOrder}
use Rattle.vault_core_model.specs.Order.{IsAscending}

abbrev pub In : {A : Type 0} → A → List A → Type 0
In x [] = ⊥
In x (y ∷ ys) = (x ≡ y) ⊎ In x ys

module _ {A : Type 0} where
  pub at_in : (P : A → Type 0) (xs : List A) → AllByRecursion P xs → (x : A) → In x xs → P x
  at_in P [] all x i = absurd i
  at_in P (y ∷ ys) all x (inl e) = subst P (sym e) all.0
  at_in P (y ∷ ys) all x (inr i) = at_in P ys all.1 x i

  pub all_of : (P : A → Type 0) (xs : List A) → ((x : A) → In x xs → P x) → AllByRecursion P xs
  all_of P [] f = tt
  all_of P (y ∷ ys) f = (f y (inl refl), all_of P ys (λ x i. f x (inr i)))

  pub none_in : (xs : List A) → length xs ≡ 0 → (x : A) → In x xs → ⊥
  none_in [] none x i = i
  none_in (y ∷ ys) none x i = absurd (omega (arith, none))

  pub no_length : (xs : List A) → ((x : A) → In x xs → ⊥) → length xs ≡ 0
  no_length [] f = refl
  no_length (y ∷ ys) f = absurd (f y (inl refl))

  pub one_in : (xs : List A) → (length xs ≡ 0 → ⊥) → (x : A) × In x xs
  one_in [] some = absurd (some refl)
  one_in (y ∷ ys) some = (y, inl refl)

  module _ (p : A → Bool) where
    pub filter_in : (xs : List A) (x : A) → In x xs → p x ≡ true → In x (filter p xs)
    filter_in [] x i is = absurd i
    filter_in (y ∷ ys) x (inl e) is = subst (λ b. In x (if b then y ∷ filter p ys else filter p ys)) (sym (ap p (sym e) ∙ is)) (inl e)
    filter_in (y ∷ ys) x (inr i) is =
        let more = filter_in ys x i is in
        elim (p y) as (λ b. In x (if b then y ∷ filter p ys else filter p ys)) [
          | true ↦ inr more
          | false ↦ more
        ]

    with_first : (x y : A) (ys zs : List A) → p y ≡ true → (In x zs → In x ys × (p x ≡ true)) → In x (y ∷ zs) → In x (y ∷ ys) × (p x ≡ true)
    with_first x y ys zs is more (inl e) = (inl e, ap p e ∙ is)
    with_first x y ys zs is more (inr j) = let it = more j in (inr it.0, it.1)

    pub in_filter : (xs : List A) (x : A) → In x (filter p xs) → In x xs × (p x ≡ true)
    in_filter [] x i = absurd i
    in_filter (y ∷ ys) x i =
        elim (p y) as (λ b. p y ≡ b → In x (if b then y ∷ filter p ys else filter p ys) → In x (y ∷ ys) × (p x ≡ true)) [
          | true ↦ λ is j. with_first x y ys (filter p ys) is (λ k. in_filter ys x k) j
          | false ↦ λ is j. let it = in_filter ys x j in (inr it.0, it.1)
        ] refl i

    pub any_in : (xs : List A) → list_any p xs ≡ true → (x : A) × In x xs × (p x ≡ true)
    any_in [] any = absurd (cc any)
    any_in (y ∷ ys) any =
        elim (p y) as (λ b. p y ≡ b → (b || list_any p ys) ≡ true → (x : A) × In x (y ∷ ys) × (p x ≡ true)) [
          | true ↦ λ is h. (y, inl refl, is)
          | false ↦ λ is h. let it = any_in ys h in (it.0, inr it.1, it.2)
        ] refl any

    pub in_any : (xs : List A) (x : A) → In x xs → p x ≡ true → list_any p xs ≡ true
    in_any [] x i is = absurd i
    in_any (y ∷ ys) x (inl e) is = ap (λ b. b || list_any p ys) (ap p (sym e) ∙ is)
    in_any (y ∷ ys) x (inr i) is =
        let more = in_any ys x i is in
        elim (p y) as (λ b. (b || list_any p ys) ≡ true) [ true ↦ refl | false ↦ more ]

pub map_in : {A B : Type 0} (f : A → B) (xs : List A) (x : A) → In x xs → In (f x) (map f xs)
map_in f [] x i = absurd i
map_in f (y ∷ ys) x (inl e) = inl (ap f e)
map_in f (y ∷ ys) x (inr i) = inr (map_in f ys x i)

pub in_map : {A B : Type 0} (f : A → B) (xs : List A) (z : B) → In z (map f xs) → (x : A) × In x xs × (z ≡ f x)
in_map f [] z i = absurd i
in_map f (y ∷ ys) z (inl e) = (y, inl refl, e)
in_map f (y ∷ ys) z (inr i) = let it = in_map f ys z i in (it.0, inr it.1, it.2)

-- ---- lists that rise

module _ {A : Type 0} (cmp : A → A → Ordering) (total : IsTotalOrder cmp) where
  turned : (x y : A) → cmp x y ≡ Less → cmp y x ≡ Greater
  turned x y less = total.antisymm y x ∙ ap ordering_reverse less

  as_itself : (o : Ordering) → o ≡ ordering_reverse o → o ≡ Equal
  as_itself Less e = absurd (cc e)
  as_itself Equal e = refl
  as_itself Greater e = absurd (cc e)

  pub tied : (x : A) → cmp x x ≡ Equal
  tied x = as_itself (cmp x x) (total.antisymm x x)

  less_apart : (x y : A) → cmp x y ≡ Less → x ≡ y → ⊥
  less_apart x y less e =
      let one : cmp x y ≡ Equal = subst (λ z. cmp x z ≡ Equal) e (tied x) in
      let two : Less ≡ Equal = sym less ∙ one in cc two

  both_ways : (x y : A) → cmp x y ≡ Less → cmp y x ≡ Less → ⊥
  both_ways x y less more = let two : Less ≡ Greater = sym more ∙ turned x y less in cc two

  -- two that tie are one
  pub one_of : (xs : List A) → IsAscending cmp xs → (x y : A) → In x xs → In y xs → cmp x y ≡ Equal → x ≡ y
  one_of [] up x y i j tie = absurd i
  one_of (z ∷ zs) up x y (inl e) (inl f) tie = e ∙ sym f
  one_of (z ∷ zs) up x y (inl e) (inr j) tie =
      let less : cmp x y ≡ Less = subst (λ w. cmp w y ≡ Less) (sym e) (at_in (λ w. cmp z w ≡ Less) zs up.0 y j) in
      let two : Less ≡ Equal = sym less ∙ tie in absurd (cc two)
  one_of (z ∷ zs) up x y (inr i) (inl f) tie =
      let less : cmp y x ≡ Less = subst (λ w. cmp w x ≡ Less) (sym f) (at_in (λ w. cmp z w ≡ Less) zs up.0 x i) in
      let two : Greater ≡ Equal = sym (turned y x less) ∙ tie in absurd (cc two)
  one_of (z ∷ zs) up x y (inr i) (inr j) tie = one_of zs up.1 x y i j tie

  same_first : (x y : A) (xs ys : List A) → AllByRecursion (λ w. cmp x w ≡ Less) xs → AllByRecursion (λ w. cmp y w ≡ Less) ys → In x (y ∷ ys) → In y (x ∷ xs) → x ≡ y
  same_first x y xs ys low high (inl e) j = e
  same_first x y xs ys low high (inr i) (inl f) = sym f
  same_first x y xs ys low high (inr i) (inr j) = absurd (both_ways x y (at_in (λ w. cmp x w ≡ Less) xs low y j) (at_in (λ w. cmp y w ≡ Less) ys high x i))

  -- what is after the first of the one is after the first of the other
  after_too : (x y : A) (xs ys : List A) → x ≡ y → AllByRecursion (λ w. cmp x w ≡ Less) xs → (z : A) → In z xs → In z (y ∷ ys) → In z ys
  after_too x y xs ys same low z i (inl e) = absurd (less_apart x z (at_in (λ w. cmp x w ≡ Less) xs low z i) (same ∙ sym e))
  after_too x y xs ys same low z i (inr j) = j

  -- lists that rise with the same in both are one
  pub same_rising : (xs ys : List A) → IsAscending cmp xs → IsAscending cmp ys → ((x : A) → In x xs → In x ys) → ((y : A) → In y ys → In y xs) → xs ≡ ys
  same_rising [] [] up high f g = refl
  same_rising [] (y ∷ ys) up high f g = absurd (g y (inl refl))
  same_rising (x ∷ xs) [] up high f g = absurd (f x (inl refl))
  same_rising (x ∷ xs) (y ∷ ys) up high f g =
      let same = same_first x y xs ys up.0 high.0 (f x (inl refl)) (g y (inl refl)) in
      let rest = same_rising xs ys up.1 high.1 (λ z i. after_too x y xs ys same up.0 z i (f z (inr i))) (λ z i. after_too y x ys xs (sym same) high.0 z i (g z (inr i))) in
      cc (same, rest)
