-- What is taken of the row that is found in a table.
use Rattle.std.proofs.Common.{◌≡◌, Bool, true, false, refl, cond}
use Rattle.std.specs.Prelude.{Option, option_map}

pub option_map-cond : {A B : Type 0} (f : A → B) (b : Bool) (x y : Option A) → option_map f (let found : Option A = cond b x y in found) ≡ cond b (option_map f x) (option_map f y)
option_map-cond f true x y = refl
option_map-cond f false x y = refl
