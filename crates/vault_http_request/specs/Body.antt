-- The body of a request.
use Rattle.std.specs.Prelude.{ℕ, ◌≡◌, ◌≤◌, ◌<◌, List, [], ◌++◌, length, take, Bool, true, false, Option, Some, None}
use Rattle.std.specs.Io.KnownBytes.{Consumes, IsAtEnd}

-- what comes where n bytes are wanted of these: none where there are fewer
abbrev pub Came : ℕ → List ℕ → Option (List ℕ) → Type 0
Came size rest None = length rest < size
Came size rest (Some body) = (size ≤ length rest) × (body ≡ take size rest)

-- A reader that had old gave these bytes and has new, and they stand after those of body: at least one and no more
-- than left; or it gave none and is at its end.
abbrev pub Moved : ℕ → Option (List ℕ) → Option (List ℕ) → List ℕ → List ℕ → Bool → Type 0
Moved left old new body after true = (piece : List ℕ) × (after ≡ body ++ piece) × Consumes old new piece × (0 < length piece) × (length piece ≤ left)
Moved left old new body after false = (after ≡ body) × Consumes old new [] × IsAtEnd new
