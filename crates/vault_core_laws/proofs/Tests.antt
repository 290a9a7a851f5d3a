-- What tests say.
use Rattle.std.proofs.Common.{◌≡◌, Bool, true, false, Option, Some, None, refl}
use Rattle.std.specs.Prelude.{is_none, ◌||◌}

-- nothing is there
pub none_is : {A : Type 0} (o : Option A) → is_none o ≡ true → o ≡ None
none_is None e = refl
none_is (Some x) e = absurd (cc e)

-- of two that are there
pub same_some : {A : Type 0} (x y : A) → ◌≡◌ {A = Option A} (Some x) (Some y) → x ≡ y
same_some x y e = cc

-- the first two of three, in the other order
pub swapped : (b c d : Bool) → (b || (c || d)) ≡ (c || (b || d))
swapped true true d = refl
swapped true false d = refl
swapped false true d = refl
swapped false false d = refl
