-- Lists that are placed, mapped and filtered, up to the order.
use Rattle.std.proofs.Common.{◌≡◌, List, [], ◌∷◌, ◌++◌, map, filter, flat_map, cond, Bool, true, false, Ordering, Less, Equal, Greater, IsPermutation, refl, sym, ap, subst, ◌∙◌, append_assoc, append-nil}
use Rattle.std.specs.List.{AllByRecursion}
use Rattle.std.proofs.lemmas.List.Sorted.{IsPermutation-refl, IsPermutation-sym, IsPermutation-cons, IsPermutation-trans, IsPermutation-middle, IsPermutation-append_left, IsPermutation-append_comm}
use Rattle.sqlite_value.specs.Order.{Row}
use Rattle.vault_core_model.specs.Order.{placed, placed_by}
use Rattle.vault_store_model.specs.Edits.{pushed}

-- ---- order

module _ {A : Type 0} where
  -- at its place, as in front
  pub placed_in_front : (cmp : A → A → Ordering) (x : A) (ys : List A) → IsPermutation (placed cmp x ys) (x ∷ ys)
  placed_in_front cmp x [] = IsPermutation-refl (x ∷ [])
  placed_in_front cmp x (y ∷ ys) =
      elim (cmp x y) as (λ o. IsPermutation (placed_by o x y ys (placed cmp x ys)) (x ∷ y ∷ ys)) [
        | Less ↦ IsPermutation-refl (x ∷ y ∷ ys)
        | Equal ↦ IsPermutation-refl (x ∷ y ∷ ys)
        | Greater ↦ IsPermutation-trans _ _ _ (IsPermutation-cons y _ _ (placed_in_front cmp x ys)) (IsPermutation-middle (y ∷ []) x ys)
      ]

  -- three parts, of which the second comes first
  pub second_first : (xs ys zs : List A) → IsPermutation (xs ++ (ys ++ zs)) (ys ++ (xs ++ zs))
  second_first xs ys zs =
      subst (λ l. IsPermutation l (ys ++ (xs ++ zs))) (append_assoc xs ys zs)
      (subst (IsPermutation ((xs ++ ys) ++ zs)) (append_assoc ys xs zs) (IsPermutation-append_left zs _ _ (IsPermutation-append_comm xs ys)))

-- ---- what is pushed

pub pushed_in_front : (more rows : List Row) → IsPermutation (more ++ rows) (pushed more rows)
pushed_in_front [] rows = IsPermutation-refl rows
pushed_in_front (row ∷ more) rows = IsPermutation-trans _ _ _ (IsPermutation-sym _ _ (IsPermutation-middle more row rows)) (pushed_in_front more (row ∷ rows))

-- ---- element by element

-- two maps that agree on each element
pub map_each : {A B : Type 0} (f g : A → B) (xs : List A) → AllByRecursion (λ x. f x ≡ g x) xs → map f xs ≡ map g xs
map_each f g [] all = refl
map_each f g (x ∷ xs) all = rw (all.0, map_each f g xs all.1) refl

-- records that are altered, and their rows
pub map_rows : {A : Type 0} (row : A → Row) (f : A → A) (change : Row → Row) → ((x : A) → row (f x) ≡ change (row x)) → (xs : List A) → map row (map f xs) ≡ map change (map row xs)
map_rows row f change same [] = refl
map_rows row f change same (x ∷ xs) = rw (same x, map_rows row f change same xs) refl

-- records that are altered, and what is said of them
pub map_unread : {A B : Type 0} (g : A → B) (f : A → A) → ((x : A) → g (f x) ≡ g x) → (xs : List A) → map g (map f xs) ≡ map g xs
map_unread g f same [] = refl
map_unread g f same (x ∷ xs) = rw (same x, map_unread g f same xs) refl

pub flat_map_unread : {A B : Type 0} (g : A → List B) (f : A → A) → ((x : A) → g (f x) ≡ g x) → (xs : List A) → flat_map g (map f xs) ≡ flat_map g xs
flat_map_unread g f same [] = refl
flat_map_unread g f same (x ∷ xs) = rw (same x, flat_map_unread g f same xs) refl

pub filter-append : {A : Type 0} (p : A → Bool) (xs ys : List A) → filter p (xs ++ ys) ≡ filter p xs ++ filter p ys
filter-append p [] ys = refl
filter-append p (x ∷ xs) ys =
    elim (p x) as (λ b. cond b (x ∷ filter p (xs ++ ys)) (filter p (xs ++ ys)) ≡ cond b (x ∷ filter p xs) (filter p xs) ++ filter p ys)
    [ true ↦ ap (λ l. x ∷ l) (filter-append p xs ys) | false ↦ filter-append p xs ys ]

pub flat_map-append : {A B : Type 0} (f : A → List B) (xs ys : List A) → flat_map f (xs ++ ys) ≡ flat_map f xs ++ flat_map f ys
flat_map-append f [] ys = refl
flat_map-append f (x ∷ xs) ys = ap (λ l. f x ++ l) (flat_map-append f xs ys) ∙ sym (append_assoc (f x) (flat_map f xs) (flat_map f ys))

pub flat_map_one : {A B : Type 0} (f : A → List B) (x : A) → flat_map f (x ∷ []) ≡ f x
flat_map_one f x = append-nil (f x)
