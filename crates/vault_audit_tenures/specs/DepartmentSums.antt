-- The rows of departments beside sums that were taken.
use Rattle.std.specs.Prelude.{◌≡◌, Some, Bool, map}
use Rattle.sqlite.specs.Effect.{Database}
use Rattle.vault_audit_model.specs.declared.rows.DepartmentRow.{DepartmentRow}
use Rattle.vault_audit_model.specs.declared.schema.SchemaVersion.{SchemaVersion}
use Rattle.vault_audit_model.specs.Limits.{IsDepartmentRow}
use Rattle.vault_audit_model.specs.Rows.{department_row, department_columns_as}
use Rattle.vault_audit_model.specs.Tables.{departments_tree}
use Rattle.vault_audit_rows.specs.Records.{AreRecords}
use Rattle.vault_audit_tenures.specs.declared.sums.totals.Totals.{Totals}
use Rattle.vault_audit_tenures.specs.Totals.{total_of}

-- the department is in its limits and has these sums
abbrev pub HasTotal : Totals → DepartmentRow → Type 0
HasTotal t d = IsDepartmentRow d × (total_of t d.name ≡ Some d.sums)

-- the rows of departments are such departments, or are not
abbrev pub HaveTotals : Totals → SchemaVersion → Database → Bool → Type 0
HaveTotals t n db = AreRecords department_row (HasTotal t) (map (department_columns_as n) (db.trees departments_tree))
