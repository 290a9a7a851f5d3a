-- The versions by their tenures.
use Rattle.std.specs.Prelude.{◌≡◌, ◌==◌, Bool, not, List, map, IsPermutation}
use Rattle.std.specs.List.{AllByRecursion, list_any}
use Rattle.sqlite.specs.Effect.{Database}
use Rattle.vault_core_model.specs.declared.records.Entry.{Entry}
use Rattle.vault_audit_model.specs.declared.rows.TenureRow.{TenureRow}
use Rattle.vault_audit_model.specs.Relations.{AreEntries}
use Rattle.vault_audit_model.specs.Rows.{tenure_row, tenure_columns}
use Rattle.vault_audit_model.specs.Tables.{tenures_tree}
use Rattle.vault_audit_rows.specs.Beside.{Decides}

-- the rows of tenures are these, in any order
abbrev pub AreRowsOf : Database → List TenureRow → Type 0
AreRowsOf db ts = IsPermutation (map tenure_row ts) (map tenure_columns (db.trees tenures_tree))

-- some tenure is of the entry, unless it is a marker
abbrev pub HasSome : List TenureRow → Entry → Type 0
HasSome ts e = list_any (λ t. t.id == e.id) ts ≡ not e.marker

-- whether each version has a tenure and no marker has one
abbrev pub DecidesPresence : Bool → Database → Bool → Type 0
DecidesPresence external db b = (es : List Entry) → AreEntries external db es → (ts : List TenureRow) → AreRowsOf db ts → Decides b (AllByRecursion (HasSome ts) es)
