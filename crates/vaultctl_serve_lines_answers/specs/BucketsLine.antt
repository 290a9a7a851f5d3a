-- The line of some names of buckets.
use Rattle.std.specs.Prelude.{ℕ, List, [], ◌∷◌, ◌++◌, codes, map, Bool}
use Rattle.serde_json.specs.Data.{Data, boolean, string, array, object, member, no_members}
use Rattle.serde_json.specs.View.{items_of}
use Rattle.serde_json.specs.Written.{compact_text}
use Rattle.vaultctl_serve_lines_answers.specs.StatusLine.{ok_value}
use Rattle.vaultctl_serve_lines_answers.specs.declared.buckets_line.BucketsPage.{BucketsPage}

abbrev pub name_value : List ℕ → Data
name_value name = string name

-- the names, and whether names after them were left out
abbrev pub page_members : Data → Bool → Data
page_members names more = object (member (codes "buckets") names (member (codes "more") (boolean more) no_members))

abbrev pub page_value : BucketsPage → Data
page_value p = page_members (array (items_of (map name_value p.names))) p.more

-- compact JSON, and an LF
unfoldable pub buckets_text : BucketsPage → List ℕ
buckets_text p = compact_text (ok_value (page_value p)) ++ 10 ∷ []
