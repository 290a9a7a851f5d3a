-- A text that shows the columns of all rows of a table.
use Rattle.std.specs.Prelude.{◌≡◌, ℕ, List, [], map}
use Rattle.sqlite_value.specs.Order.{Row}
use Rattle.sqlite_sql.specs.Term.{Term}
use Rattle.sqlite_schema.specs.declared.schema.Schema.{Schema}
use Rattle.vault_audit_model.specs.Queries.{table_scan, Selects}
use Rattle.vault_audit_rows.specs.Health.{Asks}
use Rattle.vault_audit_rows.proofs.ScanLemmas.{shows}

pub record ShowsAll (schema : Schema) (sql : List ℕ) (t : ℕ) (columns : Row → Row) : Type 0 where
  pub terms : List Term
  pub scans : Selects schema sql (table_scan t [] terms)
  pub asks : Asks schema sql
  pub alike : (rows : List Row) → map (shows terms []) rows ≡ map columns rows
