-- The number of entries.
use Rattle.std.specs.Prelude.{◌≡◌, ℕ, ◌+◌, Bool, true, false, length}
use Rattle.sqlite.specs.Effect.{Database}
use Rattle.vault_audit_model.specs.Tables.{entries_tree}
use Rattle.vault_audit_records.specs.declared.meta.second_look.RowCount.{RowCount}

-- one row more was met
abbrev pub CountsOne : RowCount → RowCount → Type 0
CountsOne p q = q.count ≡ p.count + 1

-- whether this is one above the number of entries
abbrev pub DecidesNext : Database → ℕ → Bool → Type 0
DecidesNext db next true = next ≡ length (db.trees entries_tree) + 1
DecidesNext db next false = ¬ (next ≡ length (db.trees entries_tree) + 1)
