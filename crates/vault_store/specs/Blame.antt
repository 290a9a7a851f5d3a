-- What a refusal of the store is to a keeper.
use Rattle.sqlite.specs.declared.error.Error.{Error}
use Rattle.sqlite.specs.declared.error.Error.TheVariants.{SqliteFailure}
use Rattle.sqlite.specs.declared.error.ErrorCode.TheVariants.{OutOfMemory}
use Rattle.vault_core_model.specs.declared.halt.Fault.{Fault}
use Rattle.vault_core_model.specs.declared.halt.Fault.TheVariants.{Memory, Device}

-- out of memory is reported as such, and any other cause as a failure of the device
abbrev pub fault_of : Error → Fault
fault_of (SqliteFailure OutOfMemory) = Memory
fault_of _ = Device
