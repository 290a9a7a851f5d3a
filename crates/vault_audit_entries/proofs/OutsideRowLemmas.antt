-- A row shows one id.
use Rattle.std.proofs.Common.{◌≡◌, ℕ, sym, ◌∙◌}
use Rattle.sqlite_value.specs.Order.{Row}
use Rattle.vault_audit_model.proofs.SameRows.{cell, number_same}
use Rattle.vault_audit_entries.specs.Outside.{outside_row}

pub same_row : (x y : ℕ) → outside_row x ≡ outside_row y → x ≡ y
same_row x y e = number_same x y (cell (outside_row x) (outside_row y) 0 e)

pub same_id : (row : Row) (x y : ℕ) → row ≡ outside_row x → row ≡ outside_row y → x ≡ y
same_id row x y is_x is_y = same_row x y (sym is_x ∙ is_y)
