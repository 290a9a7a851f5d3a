-- The order of keys: by their bytes.
use Rattle.std.specs.Prelude.{◌≡◌, ◌⊎◌, ℕ, List, [], ◌∷◌}
use Rattle.std.specs.Ordering.{nat_cmp}
use Rattle.std.specs.declared.cmp.Ordering.TheVariants.{Less}
use Rattle.std.specs.Cmp.Lexicographic.{slice_cmp}

-- k is one of these
abbrev pub IsIn : List ℕ → List (List ℕ) → Type 0
IsIn k [] = ⊥
IsIn k (j ∷ js) = (k ≡ j) ⊎ IsIn k js

-- k comes before each of these
abbrev pub IsUnder : List ℕ → List (List ℕ) → Type 0
IsUnder k [] = Unit {0}
IsUnder k (j ∷ js) = (slice_cmp nat_cmp k j ≡ Less) × IsUnder k js

-- the keys rise by their bytes
abbrev pub IsRising : List (List ℕ) → Type 0
IsRising [] = Unit {0}
IsRising (k ∷ ks) = IsUnder k ks × IsRising ks
