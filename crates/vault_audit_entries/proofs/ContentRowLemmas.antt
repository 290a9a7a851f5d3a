-- A row holds one row of contents.
use Rattle.std.proofs.Common.{◌≡◌, refl, sym, ◌∙◌}
use Rattle.sqlite_value.specs.Order.{Row}
use Rattle.vault_audit_model.specs.declared.rows.ContentRow.{ContentRow}
use Rattle.vault_audit_entries.specs.Contents.{held_row}

pub same_row : (x y : ContentRow) → held_row x ≡ held_row y → x ≡ y
same_row x y e =
    let id : x.id ≡ y.id = cc in
    let content : x.content ≡ y.content = cc in rw (id, content) refl

pub same_content : (row : Row) (x y : ContentRow) → row ≡ held_row x → row ≡ held_row y → x ≡ y
same_content row x y is_x is_y = same_row x y (sym is_x ∙ is_y)
