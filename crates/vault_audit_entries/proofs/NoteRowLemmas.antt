-- A row holds one note.
use Rattle.std.proofs.Common.{◌≡◌, [], ◌∷◌, sym, ap, ◌∙◌}
use Rattle.sqlite_value.specs.Order.{Row, column}
use Rattle.vault_core_model.specs.declared.records.Note.{Note}
use Rattle.vault_audit_model.proofs.SameRows.{same_note}
use Rattle.vault_audit_entries.specs.Notes.{noted_row}

-- the first ten values of a row
abbrev pub first_ten : Row → Row
first_ten r =
    column r 0 ∷ column r 1 ∷ column r 2 ∷ column r 3 ∷ column r 4 ∷ column r 5 ∷ column r 6 ∷ column r 7 ∷ column r 8 ∷ column r 9 ∷ []

pub same_row : (x y : Note) → noted_row x ≡ noted_row y → x ≡ y
same_row x y e = same_note x y (ap first_ten e)

pub same_noted : (row : Row) (x y : Note) → row ≡ noted_row x → row ≡ noted_row y → x ≡ y
same_noted row x y is_x is_y = same_row x y (sym is_x ∙ is_y)
