-- What an error of the store is reported as.
use Rattle.sqlite.specs.declared.error.Error.{Error}
use Rattle.sqlite.specs.declared.error.Error.TheVariants.{SqliteFailure}
use Rattle.sqlite.specs.declared.error.ErrorCode.TheVariants as code
use Rattle.vault_base.specs.declared.refusal.Refusal.{Refusal}
use Rattle.vault_base.specs.declared.refusal.Refusal.TheVariants.{Memory, Device}

-- out of memory, or else a failure of the device
abbrev pub refusal_of : Error → Refusal
refusal_of (SqliteFailure code.OutOfMemory) = Memory
refusal_of _ = Device
