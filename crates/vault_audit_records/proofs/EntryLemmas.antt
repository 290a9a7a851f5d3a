-- What two entries share that one row holds.
use Rattle.std.proofs.Common.{◌≡◌, ℕ, Option, Some, None, ◌≤◌, sym, subst, ◌∙◌}
use Rattle.sqlite_value.specs.Order.{Row}
use Rattle.vault_core_model.specs.declared.records.Entry.{Entry}
use Rattle.vault_core_model.specs.declared.records.Removal.{Removal}
use Rattle.vault_core_model.specs.Sound.{LiesBetween}
use Rattle.vault_audit_model.specs.Relations.{IsPast}
use Rattle.vault_audit_model.specs.Rows.{entry_row, removal_at}
use Rattle.vault_audit_model.proofs.SameRows.{same_entry}

removed_as : (admitted last : ℕ) (r s : Option Removal) → removal_at r ≡ removal_at s → LiesBetween admitted last r → LiesBetween admitted last s
removed_as admitted last r None e h = tt
removed_as admitted last None (Some s) e h = absurd cc
removed_as admitted last (Some r) (Some s) e h =
    let same : r.at ≡ s.at = cc in (subst (λ t. admitted ≤ t) same h.0, subst (λ t. t ≤ last) same h.1)

-- so one is past where the other is
pub as_past : (last : ℕ) (row : Row) (x y : Entry) → row ≡ entry_row x → row ≡ entry_row y → IsPast last x → IsPast last y
as_past last row x y is_x is_y h =
    let e : entry_row x ≡ entry_row y = sym is_x ∙ is_y in
    let admitted : x.admitted ≡ y.admitted = cc in
    let removal : removal_at x.removal ≡ removal_at y.removal = cc in
    (subst (λ t. t ≤ last) admitted h.0, removed_as y.admitted last x.removal y.removal removal (subst (λ t. LiesBetween t last x.removal) admitted h.1))

-- one row holds one entry
pub one_entry : (row : Row) (x y : Entry) → row ≡ entry_row x → row ≡ entry_row y → x ≡ y
one_entry row x y is_x is_y = same_entry x y (sym is_x ∙ is_y)
