-- The line of a part of a text.
use Rattle.std.specs.Prelude.{ℕ, List, [], ◌∷◌, ◌++◌, codes, Option, Some, None}
use Rattle.serde_json.specs.Data.{Data, null, string, number, unsigned, object, member, no_members}
use Rattle.serde_json.specs.Written.{compact_text}
use Rattle.vaultctl_serve_lines_answers.specs.StatusLine.{ok_value}

-- null after the last part
abbrev pub next_value : Option ℕ → Data
next_value None = null
next_value (Some id) = number (unsigned id)

abbrev pub page_members : List ℕ → Data → Data
page_members text next = object (member (codes "next") next (member (codes "text") (string text) no_members))

abbrev pub page_value : List ℕ → Option ℕ → Data
page_value text next = page_members text (next_value next)

-- compact JSON, and an LF
unfoldable pub page_line_text : List ℕ → Option ℕ → List ℕ
page_line_text text next = compact_text (ok_value (page_value text next)) ++ 10 ∷ []
