-- What stands written where writing was ended by a fault.
use Rattle.std.specs.Prelude.{◌≡◌, ℕ, List, ◌++◌, Option}
use Rattle.std.specs.Io.KnownBytes.{Appends}

-- what is written is a beginning of these bytes
abbrev pub Begins : Option (List ℕ) → Option (List ℕ) → List ℕ → Type 0
Begins w w' bytes = (sent : List ℕ) × (unsent : List ℕ) × (bytes ≡ sent ++ unsent) × Appends w w' sent
