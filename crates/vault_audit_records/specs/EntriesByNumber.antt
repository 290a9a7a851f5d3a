-- The entries by their ids.
use Rattle.std.specs.Prelude.{◌≡◌, ℕ, ◌+◌, Bool, List, length, map, Option, None, Some, IsPermutation}
use Rattle.sqlite.specs.Effect.{Database}
use Rattle.vault_core_model.specs.declared.records.Entry.{Entry}
use Rattle.vault_audit_model.specs.Limits.{IsEntry}
use Rattle.vault_audit_model.specs.Rows.{entry_row, entry_columns}
use Rattle.vault_audit_model.specs.Relations.{IsNextEntry, AreNumbered}
use Rattle.vault_audit_model.specs.Tables.{entries_tree}
use Rattle.vault_audit_records.specs.declared.entries.second_look.NumberPass.{NumberPass}

-- one entry of a walk
abbrev pub ComesNext : NumberPass → Entry → Type 0
ComesNext p e = IsEntry p.external e × IsNextEntry p.next p.low e

abbrev pub with_entry : NumberPass → Entry → NumberPass
with_entry p e = record p { next = p.next + 1; low = e.admitted }

-- the rows are those of entries with the ids 1, 2, 3 .. up to the one before this; or of none such
abbrev pub AreEntriesUpTo : Bool → Database → Option ℕ → Type 0
AreEntriesUpTo external db (Some next) = (es : List Entry) × IsPermutation (map entry_row es) (map entry_columns (db.trees entries_tree)) × AreNumbered external 1 0 es × (next ≡ length es + 1)
AreEntriesUpTo external db None = (es : List Entry) → IsPermutation (map entry_row es) (map entry_columns (db.trees entries_tree)) → ¬ AreNumbered external 1 0 es
