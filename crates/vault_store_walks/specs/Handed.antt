-- Rows whose entries a sink takes.
use Rattle.std.specs.Prelude.{◌≡◌, Bool, true, Result, Ok, Err}
use Rattle.sqlite_value.specs.Order.{Row}
use Rattle.sqlite.specs.declared.error.Error.{Error}
use Rattle.vault_core_model.specs.declared.halt.Fault.{Fault}
use Rattle.vault_core_model.specs.declared.halt.Fault.TheVariants.{Device}
use Rattle.vault_core_model.specs.declared.records.Entry.{Entry}
use Rattle.vault_core_model.specs.Handing.{Taking}
use Rattle.vault_audit_model.specs.Rows.{entry_row}

-- the sink took the entry of this row
abbrev pub Takes : {T : Type 0} → Taking T → T → Row → T → Type 0
Takes takes s row t = (e : Entry) × (row ≡ entry_row e) × takes s e true t

-- the answer of a walk, where each failure is one fault
abbrev pub as_fault : Result Bool Error → Result Bool Fault
as_fault (Ok done) = Ok done
as_fault (Err e) = Err Device
