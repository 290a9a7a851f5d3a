-- The rows of the entries.
use Rattle.std.specs.Prelude.{ℕ, Bool}
use Rattle.vault_core_model.specs.declared.records.Entry.{Entry}
use Rattle.vault_audit_model.specs.Limits.{IsEntry}
use Rattle.vault_audit_model.specs.Relations.{IsPast}

-- an entry in its limits, in a vault that may register contents that are kept outside, and past
abbrev pub IsEntryBy : Bool → ℕ → Entry → Type 0
IsEntryBy external last e = IsEntry external e × IsPast last e
