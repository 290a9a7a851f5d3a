-- The running check of external.
use Rattle.std.specs.Prelude.{ℕ, ◌+◌, ◌≤◌}
use Rattle.vault_audit_model.specs.Limits.{IsExternalRow}
use Rattle.vault_audit_entries.specs.declared.contents.outside.OutsidePass.{OutsidePass}

-- a greater id than those before it
abbrev pub ComesLater : OutsidePass → ℕ → Type 0
ComesLater p id = IsExternalRow id × (p.next ≤ id)

abbrev pub with_id : OutsidePass → ℕ → OutsidePass
with_id p id = record { next = id + 1; count = p.count + 1 }
