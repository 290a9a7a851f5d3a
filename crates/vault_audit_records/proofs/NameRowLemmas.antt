-- One row holds one caller, or the name of one department.
use Rattle.std.proofs.Common.{◌≡◌, sym, ap, ◌∙◌}
use Rattle.sqlite_value.specs.Order.{Row, column}
use Rattle.vault_core_model.specs.declared.records.Caller.{Caller}
use Rattle.vault_audit_model.specs.declared.rows.DepartmentRow.{DepartmentRow}
use Rattle.vault_audit_model.specs.Rows.{caller_row, department_row}
use Rattle.vault_audit_model.proofs.SameRows.{text_same, same_caller}

-- the row of a department states its name
pub same_name : (x y : DepartmentRow) → department_row x ≡ department_row y → x.name ≡ y.name
same_name x y e = text_same _ _ (ap (λ (r : Row). column r 0) e)

pub one_name : (row : Row) (x y : DepartmentRow) → row ≡ department_row x → row ≡ department_row y → x.name ≡ y.name
one_name row x y is_x is_y = same_name x y (sym is_x ∙ is_y)

pub one_caller : (row : Row) (x y : Caller) → row ≡ caller_row x → row ≡ caller_row y → x ≡ y
one_caller row x y is_x is_y = same_caller x y (sym is_x ∙ is_y)
