-- Facts of each element of a list.
use Rattle.std.proofs.Common.{Bool, true, false, List, [], ◌∷◌, ◌++◌, map}
use Rattle.std.specs.List.{AllByRecursion}
use Rattle.std.specs.declared.cmp.Ordering.{Ordering}
use Rattle.std.specs.declared.cmp.Ordering.TheVariants.{Less, Equal, Greater}
use Rattle.vault_core_model.specs.Order.{placed, placed_by}
use Rattle.std.specs.Prelude.{filter, if◌then◌else◌}

pub All-push : {X : Type 0} (P : X → Type 0) (xs : List X) (x : X) → AllByRecursion P xs → P x → AllByRecursion P (xs ++ x ∷ [])
All-push P [] x all p = (p, tt)
All-push P (y ∷ ys) x all p = (all.0, All-push P ys x all.1 p)

-- the last of them
pub All-last : {X : Type 0} (P : X → Type 0) (xs : List X) (x : X) → AllByRecursion P (xs ++ x ∷ []) → P x
All-last P [] x all = all.0
All-last P (y ∷ ys) x all = All-last P ys x all.1

-- and of one more at its place
pub All-placed : {X : Type 0} (P : X → Type 0) (cmp : X → X → Ordering) (x : X) (ys : List X) → P x → AllByRecursion P ys → AllByRecursion P (placed cmp x ys)
All-placed P cmp x [] p all = (p, tt)
All-placed P cmp x (y ∷ ys) p all =
    elim (cmp x y) as (λ o. AllByRecursion P (placed_by o x y ys (placed cmp x ys))) [
      | Less ↦ (p, all)
      | Equal ↦ (p, all)
      | Greater ↦ (all.0, All-placed P cmp x ys p all.1)
    ]

pub All-weaker : {X : Type 0} (P Q : X → Type 0) → ((x : X) → P x → Q x) → (xs : List X) → AllByRecursion P xs → AllByRecursion Q xs
All-weaker P Q f [] all = tt
All-weaker P Q f (y ∷ ys) all = (f y all.0, All-weaker P Q f ys all.1)

-- two facts of each element, together
pub All-both : {X : Type 0} (P Q R : X → Type 0) → ((x : X) → P x → Q x → R x) → (xs : List X) → AllByRecursion P xs → AllByRecursion Q xs → AllByRecursion R xs
All-both P Q R f [] ps qs = tt
All-both P Q R f (x ∷ xs) ps qs = (f x ps.0 qs.0, All-both P Q R f xs ps.1 qs.1)

-- two facts of each element, after a map
pub All-map : {X : Type 0} (P Q R : X → Type 0) (g : X → X) → ((x : X) → P x → Q x → R (g x)) → (xs : List X) → AllByRecursion P xs → AllByRecursion Q xs → AllByRecursion R (map g xs)
All-map P Q R g f [] ps qs = tt
All-map P Q R g f (x ∷ xs) ps qs = (f x ps.0 qs.0, All-map P Q R g f xs ps.1 qs.1)

-- what is left of a list by a test
pub All-filter : {X : Type 0} (P : X → Type 0) (p : X → Bool) (xs : List X) → AllByRecursion P xs → AllByRecursion P (filter p xs)
All-filter P p [] all = tt
All-filter P p (x ∷ xs) all =
    elim (p x) as (λ b. AllByRecursion P (if b then x ∷ filter p xs else filter p xs))
    [ true ↦ (all.0, All-filter P p xs all.1) | false ↦ All-filter P p xs all.1 ]
