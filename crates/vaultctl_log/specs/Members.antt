-- Members of a line of the log.
use Rattle.std.specs.Prelude.{ℕ, List, [], ◌∷◌, ◌++◌}
use Rattle.std.specs.Fmt.{decimal}
use Rattle.serde_json.specs.Data.{string}
use Rattle.serde_json.specs.Written.{compact_text}

-- a text as JSON has it, in quotes
unfoldable pub quoted : List ℕ → List ℕ
quoted text = compact_text (string text)

-- a comma, the name of a member in quotes, and a colon
abbrev pub named : List ℕ → List ℕ
named name = 44 ∷ 34 ∷ name ++ 34 ∷ 58 ∷ []

-- a member that is a text
unfoldable pub text_member : List ℕ → List ℕ → List ℕ
text_member name text = named name ++ quoted text

-- a member that is a number
unfoldable pub number_member : List ℕ → ℕ → List ℕ
number_member name n = named name ++ decimal n
