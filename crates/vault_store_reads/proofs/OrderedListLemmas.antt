-- Lists that are reversed, joined or mapped.
use Rattle.std.proofs.Common.{◌≡◌, ℕ, ◌+◌, ◌<◌, ◌&&◌, List, [], ◌∷◌, ◌++◌, map, filter, flat_map, find, take, drop, length, get_or, reverse, Bool, true, false, Option, None, Some, option_to_list, inl, inr, refl, sym, ap, ap₂, subst, ◌∙◌, append_assoc}
use Rattle.std.specs.Prelude.{option_map}
use Rattle.std.specs.List.{AllByRecursion}
use Rattle.std.proofs.lemmas.Bool.{cases_Bool}
use Rattle.std.proofs.lemmas.List.{map-append, drop_more}
use Rattle.std.proofs.lemmas.List.Sorted.{IsPermutation-reverse}
use Rattle.sqlite_trees.specs.Tree.{IsAscending}
use Rattle.sqlite_trees.proofs.ListLemmas.{all-permutation}
use Rattle.sqlite_keyed.proofs.ListLemmas.{all_weaker, ascending-append}
use mathlib.Core.List.{reverse-cons}

-- what rises falls when it is reversed
pub falls : {X : Type 0} (R : X → X → Type 0) (xs : List X) → IsAscending R xs → IsAscending (λ a b. R b a) (reverse xs)
falls R [] up = tt
falls {X} R (x ∷ xs) up =
    let S : X → X → Type 0 = λ a b. R b a in
    let across = all-permutation (λ a. AllByRecursion (S a) (x ∷ [])) xs (reverse xs) (IsPermutation-reverse xs) (all_weaker (R x) (λ a. AllByRecursion (S a) (x ∷ [])) (λ a low. (low, tt)) xs up.0) in
    subst (IsAscending S) (sym (reverse-cons x xs)) (ascending-append S (reverse xs) (x ∷ []) (falls R xs up.1) (tt, tt) across)

pub map-reverse : {X Y : Type 0} (f : X → Y) (xs : List X) → map f (reverse xs) ≡ reverse (map f xs)
map-reverse f [] = refl
map-reverse f (x ∷ xs) = ap (map f) (reverse-cons x xs) ∙ map-append f (reverse xs) (x ∷ []) ∙ ap (λ l. l ++ f x ∷ []) (map-reverse f xs) ∙ sym (reverse-cons (f x) (map f xs))

-- ---- the last

abbrev pub last : {X : Type 0} → List X → Option X
last [] = None
last (x ∷ []) = Some x
last (x ∷ y ∷ ys) = last (y ∷ ys)

first_of : {X : Type 0} (xs ys : List X) (x : X) → xs ≡ ys ++ x ∷ [] → (zs : List X) → take 1 (xs ++ zs) ≡ take 1 xs
first_of [] [] x is zs = absurd cc
first_of [] (y ∷ ys) x is zs = absurd cc
first_of (w ∷ ws) ys x is zs = refl

-- of a reversed list it is the first
pub first_reversed : {X : Type 0} (xs : List X) → take 1 (reverse xs) ≡ option_to_list (last xs)
first_reversed [] = refl
first_reversed (x ∷ []) = refl
first_reversed (x ∷ y ∷ ys) = ap (take 1) (reverse-cons x (y ∷ ys)) ∙ first_of (reverse (y ∷ ys)) (reverse ys) y (reverse-cons y ys) (x ∷ []) ∙ first_reversed (y ∷ ys)

pub last-map : {X Y : Type 0} (f : X → Y) (xs : List X) → last (map f xs) ≡ option_map f (last xs)
last-map f [] = refl
last-map f (x ∷ []) = refl
last-map f (x ∷ y ∷ ys) = last-map f (y ∷ ys)

pub mapped_option : {X Y : Type 0} (f : X → Y) (o : Option X) → option_to_list (option_map f o) ≡ map f (option_to_list o)
mapped_option f None = refl
mapped_option f (Some x) = refl

-- ---- maps

pub map_once : {X Y : Type 0} (f : X → Y) → ((x y : X) → f x ≡ f y → x ≡ y) → (xs ys : List X) → map f xs ≡ map f ys → xs ≡ ys
map_once f one [] [] same = refl
map_once f one [] (y ∷ ys) same = absurd cc
map_once f one (x ∷ xs) [] same = absurd cc
map_once f one (x ∷ xs) (y ∷ ys) same =
    let first : f x ≡ f y = cc in
    let rest : map f xs ≡ map f ys = cc in
    ap₂ (λ a l. a ∷ l) (one x y first) (map_once f one xs ys rest)

-- two that agree on what passes show the same of it
pub mapped_kept : {X Y : Type 0} (f g : X → Y) (p : X → Bool) → ((x : X) → p x ≡ true → f x ≡ g x) → (xs : List X) → map f (filter p xs) ≡ map g (filter p xs)
mapped_kept f g p same [] = refl
mapped_kept f g p same (x ∷ xs) = elim (cases_Bool (p x)) [
  | inl kept ↦ rw kept (ap₂ (λ a l. a ∷ l) (same x kept) (mapped_kept f g p same xs))
  | inr left ↦ rw left (mapped_kept f g p same xs)
]

-- ---- the parts of a list of which one has a key

pub filter-append : {X : Type 0} (p : X → Bool) (xs ys : List X) → filter p (xs ++ ys) ≡ filter p xs ++ filter p ys
filter-append p [] ys = refl
filter-append p (x ∷ xs) ys = elim (cases_Bool (p x)) [
  | inl kept ↦ rw kept (ap (λ l. x ∷ l) (filter-append p xs ys))
  | inr left ↦ rw left (filter-append p xs ys)
]

abbrev pub part_of : {X Y : Type 0} → (X → List Y) → Option X → List Y
part_of f None = []
part_of f (Some x) = f x

all_pass : {Y : Type 0} (is : Y → Bool) (b : Bool) (ys : List Y) → b ≡ true → AllByRecursion (λ y. is y ≡ b) ys → filter is ys ≡ ys
all_pass is b [] yes_ all = refl
all_pass is b (y ∷ ys) yes_ all = rw (all.0, yes_) (ap (λ l. y ∷ l) (all_pass is b ys yes_ all.1))

none_pass : {Y : Type 0} (is : Y → Bool) (b : Bool) (ys : List Y) → b ≡ false → AllByRecursion (λ y. is y ≡ b) ys → filter is ys ≡ []
none_pass is b [] no_ all = refl
none_pass is b (y ∷ ys) no_ all = rw (all.0, no_) (none_pass is b ys no_ all.1)

module _ {X Y : Type 0} (has : X → Bool) (f : X → List Y) (is : Y → Bool) (each : (x : X) → AllByRecursion (λ y. is y ≡ has x) (f x)) where
  none_there : (xs : List X) → AllByRecursion (λ x. has x ≡ false) xs → filter is (flat_map f xs) ≡ []
  none_there [] none = refl
  none_there (x ∷ xs) none = filter-append is (f x) (flat_map f xs) ∙ ap₂ ◌++◌ (none_pass is (has x) (f x) none.0 (each x)) (none_there xs none.1)

  -- what is in the one part that has the key
  pub in_one_part : (xs : List X) → IsAscending (λ x y. has x ≡ true → has y ≡ false) xs → filter is (flat_map f xs) ≡ part_of f (find has xs)
  in_one_part [] apart = refl
  in_one_part (x ∷ xs) apart = elim (cases_Bool (has x)) [
    | inl this ↦ rw this (filter-append is (f x) (flat_map f xs) ∙ ap₂ ◌++◌ (all_pass is (has x) (f x) this (each x)) (none_there xs (all_weaker (λ y. has x ≡ true → has y ≡ false) (λ y. has y ≡ false) (λ y other. other this) xs apart.0)) ∙ ends (f x))
    | inr other ↦ rw other (filter-append is (f x) (flat_map f xs) ∙ ap (λ l. l ++ filter is (flat_map f xs)) (none_pass is (has x) (f x) other (each x)) ∙ in_one_part xs apart.1)
  ]
    where
      ends : (ys : List Y) → ys ++ [] ≡ ys
      ends [] = refl
      ends (y ∷ ys) = ap (λ l. y ∷ l) (ends ys)

-- ---- small ones

pub always : {X : Type 0} (P : X → Type 0) → ((x : X) → P x) → (xs : List X) → AllByRecursion P xs
always P f [] = tt
always P f (x ∷ xs) = (f x, always P f xs)

pub filter_twice : {X : Type 0} (p q : X → Bool) (xs : List X) → filter p (filter q xs) ≡ filter (λ x. q x && p x) xs
filter_twice p q [] = refl
filter_twice p q (x ∷ xs) = elim (cases_Bool (q x)) [
  | inl kept ↦ elim (cases_Bool (p x)) [
    | inl both ↦ rw (kept, both) (ap (λ l. x ∷ l) (filter_twice p q xs))
    | inr one ↦ rw (kept, one) (filter_twice p q xs)
  ]
  | inr left ↦ rw left (filter_twice p q xs)
]

-- ---- the steps of a loop

pub stated_more : {X Y : Type 0} (f : X → Y) (xs : List X) (x : X) (ys : List Y) (i : ℕ) (y : Y) → map f xs ++ drop i ys ≡ ys → i < length ys → y ≡ get_or ys i y → y ≡ f x → map f (xs ++ x ∷ []) ++ drop (i + 1) ys ≡ ys
stated_more f xs x ys i y so low is stated =
    ap (λ l. l ++ drop (i + 1) ys) (map-append f xs (x ∷ [])) ∙ append_assoc (map f xs) (f x ∷ []) (drop (i + 1) ys)
    ∙ ap (λ l. map f xs ++ l) (ap (λ z. z ∷ drop (i + 1) ys) (sym stated ∙ is) ∙ sym (drop_more ys i y low)) ∙ so

pub made_more : {X Y : Type 0} (f : X → Y) (done : List Y) (one : Y) (xs : List X) (i : ℕ) (x : X) → done ++ map f (drop i xs) ≡ map f xs → i < length xs → x ≡ get_or xs i x → one ≡ f x → (done ++ one ∷ []) ++ map f (drop (i + 1) xs) ≡ map f xs
made_more f done one xs i x so low is made =
    append_assoc done (one ∷ []) (map f (drop (i + 1) xs))
    ∙ ap (λ l. done ++ l) (ap (λ z. z ∷ map f (drop (i + 1) xs)) (made ∙ ap f is) ∙ sym (ap (map f) (drop_more xs i x low))) ∙ so
