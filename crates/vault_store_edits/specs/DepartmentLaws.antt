-- What the statement that puts a row of departments in does.
use Rattle.std.proofs.Common.{Bool, refl}
use Rattle.sqlite_tied.specs.Compute.{everything}
use Rattle.vault_base.specs.declared.refusal.Table.TheVariants as table
use Rattle.vault_audit_model.specs.declared.rows.DepartmentRow.{DepartmentRow}
use Rattle.vault_audit_model.specs.Rows.{department_row}
use Rattle.vault_audit_model.specs.Tables.{departments}
use Rattle.vault_audit_model.proofs.ValueLemmas.{cast_null}
use Rattle.vault_store_edits.specs.Casts.{cast_number}
use Rattle.vault_store_edits.specs.Insertions.{insertion}
use Rattle.vault_store_edits.specs.Inserts.{Inserts}

pub department_inserts : (external : Bool) (d : DepartmentRow) → Inserts external table.Departments departments (department_row d)
unfolding everything
department_inserts external d = record {
  text = insertion external table.Departments refl;
  one = refl;
  here = refl;
  reads_so = λ rows. rw (cast_null, cast_number d.sums.admitted, cast_number d.sums.held, cast_number d.sums.removed, cast_number d.sums.weighted, cast_number d.sums.closed, cast_number d.sums.received, cast_number d.sums.handed) refl;
}
