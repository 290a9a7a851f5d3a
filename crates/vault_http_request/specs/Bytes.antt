-- A reader's bytes, one by one and in pieces.
use Rattle.std.specs.Prelude.{ℕ, ◌≡◌, List, [], ◌∷◌, take, Option, Some, None}
use Rattle.std.specs.Io.KnownBytes.{Consumes, IsAtEnd}

-- a reader that had old gave this byte and has new; or it gave none and is at its end
abbrev pub NextByte : Option (List ℕ) → Option (List ℕ) → Option ℕ → Type 0
NextByte old new None = Consumes old new [] × IsAtEnd new
NextByte old new (Some b) = Consumes old new (b ∷ [])

-- a reader that had old gave the first n bytes of buf and has new; it gave none only at its end
abbrev pub NextBytes : Option (List ℕ) → Option (List ℕ) → List ℕ → ℕ → Type 0
NextBytes old new buf n = Consumes old new (take n buf) × (n ≡ 0 → IsAtEnd new)
