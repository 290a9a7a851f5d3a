-- The lines of an input, and what they ask for.
use Rattle.std.specs.Prelude.{◌≡◌, ◌≢◌, ◌==◌, ◌&&◌, ◌⊎◌, ℕ, Bool, List, [], ◌∷◌, ◌++◌, length, map, slice_index, take, All, if◌then◌else◌}
use Rattle.std.specs.List.{flat_map}
use Rattle.vault_base.specs.declared.refusal.Refusal.TheVariants.{MalformedBody}
use Rattle.vault_lines_read.specs.ReadLine.{line_of}
use Rattle.vault_lines_read.specs.declared.read_line.Line.{Line}
use Rattle.vault_lines_read.specs.declared.read_line.Line.TheVariants as line

-- no byte is an LF
abbrev pub HasNoLf : List ℕ → Type 0
HasNoLf bytes = All (λ b. b ≢ 10) bytes

-- a line and its LF
abbrev pub ended : List ℕ → List ℕ
ended line = line ++ 10 ∷ []

-- the bytes are these lines, with an LF after each, and then a rest without LF
pub record Splits (bytes : List ℕ) (lines : List (List ℕ)) (rest : List ℕ) : Type 0 where
  pub whole : bytes ≡ flat_map ended lines ++ rest
  pub each : All HasNoLf lines
  pub last : HasNoLf rest

abbrev pub is_cr : List ℕ → Bool
is_cr bytes = (length bytes == 1) && (slice_index bytes 0 == 13)

-- What is asked by a last line that lacks its LF. A CR in front of no LF is a byte of the line, so a CR alone is no empty line.
abbrev pub unended_of : List ℕ → Line
unended_of bytes = if is_cr bytes then line.Refused MalformedBody else line_of bytes

-- what is asked by the rest at the end of the input, if there is one
abbrev pub last_of : List ℕ → List Line
last_of [] = []
last_of (b ∷ bytes) = unended_of (b ∷ bytes) ∷ []

-- the lines of the input ask for these, one after another
abbrev pub AskFor : List ℕ → List Line → Type 0
AskFor input asked = (lines : List (List ℕ)) × (rest : List ℕ) × Splits input lines rest × (asked ≡ map line_of lines ++ last_of rest)

-- those of the lines that end do
abbrev pub EndedAskFor : List ℕ → List Line → Type 0
EndedAskFor bytes asked = (lines : List (List ℕ)) × (rest : List ℕ) × Splits bytes lines rest × (asked ≡ map line_of lines)

-- The lines that were read ask for these. A last one that lacks its LF is a line only where the input is at its end.
abbrev pub AskSoFar : Type 0 → List ℕ → List Line → Type 0
AskSoFar AtEnd taken asked = EndedAskFor taken asked ⊎ (AtEnd × AskFor taken asked)

-- The lines that end in these bytes, where a part of the first was there before, and the part after the last of them. Of each line no more than n bytes are kept.
abbrev pub advance : ℕ → List ℕ → List ℕ → List (List ℕ) × List ℕ
advance most part [] = ([], part)
advance most part (b ∷ bytes) = if b == 10 then (part ∷ (advance most [] bytes).0, (advance most [] bytes).1) else advance most (take most (part ++ b ∷ [])) bytes

-- what the lines ask for that end in these bytes
abbrev pub asked_in : ℕ → List ℕ → List ℕ → List Line
asked_in most part bytes = map line_of (advance most part bytes).0
