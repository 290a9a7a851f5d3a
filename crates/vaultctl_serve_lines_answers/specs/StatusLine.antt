-- The line that says how a vault and its server are.
use Rattle.std.specs.Prelude.{ℕ, List, [], ◌∷◌, ◌++◌, codes, Option, Some, None}
use Rattle.serde_json.specs.Data.{Data, null, string, number, unsigned, object, member, no_members}
use Rattle.serde_json.specs.Written.{compact_text}
use Rattle.vault_base.specs.Moment.{moment_text}
use Rattle.vaultctl_serve_lines_answers.specs.declared.status_line.Status.{Status}

-- null where it isn't known when the server began
abbrev pub since_value : Option ℕ → Data
since_value None = null
since_value (Some moment) = string (moment_text moment)

-- a status by its texts, and the version of the program
abbrev pub status_members : List ℕ → Status → List ℕ → Data → Data
status_members version s last since =
    object (member (codes "entries") (number (unsigned s.entries)) (member (codes "failures") (number (unsigned s.failures)) (member (codes "last") (string last)
    (member (codes "since") since (member (codes "version") (string version) no_members)))))

abbrev pub status_value : List ℕ → Status → Data
status_value version s = status_members version s (moment_text s.last) (since_value s.since)

abbrev pub ok_value : Data → Data
ok_value value = object (member (codes "ok") value no_members)

-- compact JSON, and an LF
unfoldable pub status_text : List ℕ → Status → List ℕ
status_text version s = compact_text (ok_value (status_value version s)) ++ 10 ∷ []
