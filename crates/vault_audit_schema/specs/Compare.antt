-- Two lists against each other.
use Rattle.std.specs.Prelude.{ℕ, List, take, slice_get, ◌≡◌, ◌≢◌}

-- the lists agree before this place, and not at it
pub record IsFirstUnlike {X : Type 0} (xs ys : List X) (at : ℕ) : Type 0 where
  pub before : take at xs ≡ take at ys
  pub differs : slice_get xs at ≢ slice_get ys at
