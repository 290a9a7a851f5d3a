-- The place of a record is after those that come before it.
use Rattle.std.proofs.Common.{◌≡◌, ◌+◌, List, [], ◌∷◌, insert, suc, refl, ap, arith}
use Rattle.std.specs.List.{prefix_len}
use Rattle.std.specs.Ordering.{is_gt}
use Rattle.std.specs.declared.cmp.Ordering.{Ordering}
use Rattle.std.specs.declared.cmp.Ordering.TheVariants.{Less, Equal, Greater}
use Rattle.std.specs.Prelude.{if◌then◌else◌}
use Rattle.vault_core_model.specs.Order.{placed, placed_by}

pub insert-placed : {X : Type 0} (cmp : X → X → Ordering) (x : X) (ys : List X) → insert ys (prefix_len (λ y. is_gt (cmp x y)) ys) x ≡ placed cmp x ys
insert-placed cmp x [] = refl
insert-placed cmp x (y ∷ ys) =
    let later : 1 + prefix_len (λ z. is_gt (cmp x z)) ys ≡ suc (prefix_len (λ z. is_gt (cmp x z)) ys) = omega arith in
    elim (cmp x y) as (λ o. insert (y ∷ ys) (if is_gt o then 1 + prefix_len (λ z. is_gt (cmp x z)) ys else 0) x ≡ placed_by o x y ys (placed cmp x ys))
    [ Less ↦ refl | Equal ↦ refl | Greater ↦ rw later (ap (λ rest. y ∷ rest) (insert-placed cmp x ys)) ]
