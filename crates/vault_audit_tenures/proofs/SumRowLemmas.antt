-- One row holds one entry beside its bucket, one tenure beside its version, or one department.
use Rattle.std.proofs.Common.{◌≡◌, ℕ, refl, sym, ◌∙◌}
use Rattle.sqlite_value.specs.Order.{Row}
use Rattle.vault_audit_model.specs.declared.rows.DepartmentRow.{DepartmentRow}
use Rattle.vault_audit_model.specs.Rows.{department_row}
use Rattle.vault_audit_model.proofs.SameRows.{cell, number_same, number_or_null_same, flag_same, text_same, text_or_null_same}
use Rattle.vault_audit_tenures.specs.declared.sums.owned_entries.OwnedEntry.{OwnedEntry}
use Rattle.vault_audit_tenures.specs.declared.sums.tenures.StatedTenure.{StatedTenure}
use Rattle.vault_audit_tenures.specs.OwnedEntries.{owned_row}
use Rattle.vault_audit_tenures.specs.TenureSums.{stated_row}

pub same_owned : (x y : OwnedEntry) → owned_row x ≡ owned_row y → x ≡ y
same_owned x y e =
    let one = λ (at : ℕ). cell (owned_row x) (owned_row y) at e in
    rw (number_same x.id y.id (one 0), flag_same x.marker y.marker (one 1), number_same x.size y.size (one 2), number_same x.admitted y.admitted (one 3))
    (rw (number_or_null_same x.removed y.removed (one 4), text_or_null_same x.dept y.dept (one 5)) refl)

-- ---- a row of a tenure beside its version

pub same_stated : (x y : StatedTenure) → stated_row x ≡ stated_row y → x ≡ y
same_stated x y e =
    let one = λ (at : ℕ). cell (stated_row x) (stated_row y) at e in
    rw (number_same x.id y.id (one 0), text_same x.tenure.dept y.tenure.dept (one 2), number_same x.tenure.from y.tenure.from (one 3), number_same x.tenure.number y.tenure.number (one 1))
    (rw (number_same x.size y.size (one 4), number_or_null_same x.removed y.removed (one 5)) refl)

-- ---- a row of a department

pub one_department : (row : Row) (x y : DepartmentRow) → row ≡ department_row x → row ≡ department_row y → x ≡ y
one_department row x y is_x is_y =
    let one = λ (at : ℕ). cell (department_row x) (department_row y) at (sym is_x ∙ is_y) in
    rw (text_same x.name y.name (one 0), number_same x.sums.admitted y.sums.admitted (one 1), number_same x.sums.received y.sums.received (one 6), number_same x.sums.held y.sums.held (one 2))
    (rw (number_same x.sums.removed y.sums.removed (one 3), number_same x.sums.handed y.sums.handed (one 7), number_same x.sums.weighted y.sums.weighted (one 4), number_same x.sums.closed y.sums.closed (one 5)) refl)
