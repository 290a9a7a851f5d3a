-- The running count of held entries.
use Rattle.std.specs.Prelude.{◌≡◌, ◌+◌, ◌==◌, ◌&&◌, Bool, false, List, pos, negsuc}
use Rattle.sqlite_value.specs.declared.value.Value.{Value}
use Rattle.sqlite_value.specs.declared.value.Value.TheVariants.{Null, Int, Real, Text, Blob}
use Rattle.sqlite_value.specs.Order.{Row, column}
use Rattle.sqlite_sql.specs.Ops.{is_null}
use Rattle.sqlite.specs.Effect.{Database}
use Rattle.vault_core_model.specs.declared.records.Entry.{Entry}
use Rattle.vault_audit_model.specs.Relations.{AreEntries}
use Rattle.vault_audit_model.specs.Rows.{bit}
use Rattle.vault_audit_entries.specs.Contents.{held_count}
use Rattle.vault_audit_entries.specs.HeadCounts.{held_entry_count}
use Rattle.vault_audit_entries.specs.declared.held.HeldCount.{HeldCount}

abbrev pub is_zero : Value → Bool
is_zero Null = false
is_zero (Int (pos n)) = n == 0
is_zero (Int (negsuc n)) = false
is_zero (Real x) = false
is_zero (Text t) = false
is_zero (Blob b) = false

-- the row, of a marker and a removal, shows no removal
abbrev pub is_held_row : Row → Bool
is_held_row row = is_null (column row 1)

-- and no marker
abbrev pub is_version_row : Row → Bool
is_version_row row = is_zero (column row 0) && is_held_row row

-- the row is counted as what it shows
abbrev pub Counts : HeldCount → Row → HeldCount → Type 0
Counts p row q = (q.entries ≡ p.entries + bit (is_held_row row) 1) × (q.versions ≡ p.versions + bit (is_version_row row) 1)

-- the counts are those of whichever entries the rows are
abbrev pub CountsRows : Bool → Database → HeldCount → Type 0
CountsRows external db count = (es : List Entry) → AreEntries external db es → (count.entries ≡ held_entry_count es) × (count.versions ≡ held_count es)
