-- The line of a judgement of a part: the first breach in it, or null where it has none.
use Rattle.std.specs.Prelude.{ℕ, List, [], ◌∷◌, ◌++◌, codes, Option}
use Rattle.serde_json.specs.Data.{Data, null, string, number, unsigned, object, member, no_members}
use Rattle.serde_json.specs.Written.{compact_text}
use Rattle.vaultctl_serve_lines_answers.specs.PageLine.{next_value}
use Rattle.vaultctl_serve_lines_answers.specs.StatusLine.{ok_value}

-- the entry of that id breaks that law
abbrev pub breach_value : ℕ → List ℕ → Data
breach_value id law = object (member (codes "law") (string law) (member (codes "version_id") (number (unsigned id)) no_members))

abbrev pub judged_members : Data → Data → Data
judged_members breach next = object (member (codes "breach") breach (member (codes "next") next no_members))

abbrev pub judged_value : Data → Option ℕ → Data
judged_value breach next = judged_members breach (next_value next)

-- compact JSON, and an LF
unfoldable pub breach_text : ℕ → List ℕ → Option ℕ → List ℕ
breach_text id law next = compact_text (ok_value (judged_value (breach_value id law) next)) ++ 10 ∷ []

unfoldable pub clean_text : Option ℕ → List ℕ
clean_text next = compact_text (ok_value (judged_value null next)) ++ 10 ∷ []
