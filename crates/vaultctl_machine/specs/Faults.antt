-- What is reported of a file that can't be opened.
use Rattle.std.specs.Prelude.{◌≡◌, ⊤, Bool, true, false, IsTrue}
use Rattle.sqlite.specs.declared.error.Error.{Error}
use Rattle.sqlite.specs.declared.error.Error.TheVariants.{SqliteFailure}
use Rattle.sqlite.specs.declared.error.ErrorCode.TheVariants as code
use Rattle.vault_base.specs.declared.refusal.Refusal.{Refusal}
use Rattle.vault_base.specs.declared.refusal.Refusal.TheVariants.{Device, Memory, NameTaken}
use Rattle.vault_store.specs.Create.{without_tables}
use Rattle.vaultctl_machine_stores.specs.declared.cause.Cause.{Cause}
use Rattle.vaultctl_machine_stores.specs.declared.cause.Cause.TheVariants.{Full, Failed}
use Rattle.vaultctl_machine.specs.declared.open_error.OpenError.{OpenError}
use Rattle.vaultctl_machine.specs.declared.open_error.OpenError.TheVariants.{InUse, Seen, Refused}

-- where a vault should be in it: what is no store of tables holds none
abbrev pub open_refusal_of : Error → Refusal
open_refusal_of (SqliteFailure code.OutOfMemory) = Memory
open_refusal_of (SqliteFailure code.NotADatabase) = without_tables
open_refusal_of (SqliteFailure code.DatabaseCorrupt) = without_tables
open_refusal_of (SqliteFailure code.TooBig) = without_tables
open_refusal_of _ = Device

-- where a new vault is to be made in it: what is there is never written over
abbrev pub create_refusal_of : Error → Refusal
create_refusal_of (SqliteFailure code.OutOfMemory) = Memory
create_refusal_of (SqliteFailure code.NotADatabase) = NameTaken
create_refusal_of (SqliteFailure code.DatabaseCorrupt) = NameTaken
create_refusal_of (SqliteFailure code.TooBig) = NameTaken
create_refusal_of _ = Device

-- another program has it, the disk has no room or failed, or none of these is known; it is reported as this
abbrev pub cause_of : Error → Refusal → OpenError
cause_of (SqliteFailure code.DatabaseBusy) stated = InUse
cause_of (SqliteFailure code.DiskFull) stated = Seen Full stated
cause_of (SqliteFailure code.SystemIoFailure) stated = Seen Failed stated
cause_of _ stated = Refused stated

-- the disk has no room, or reading or writing failed
abbrev pub is_failure : Cause → Bool
is_failure Full = true
is_failure Failed = true
is_failure _ = false

-- a failure of the disk that is seen is reported as one, and never as out of memory or a damage
abbrev pub ReportsFailure : OpenError → Type 0
ReportsFailure (Seen seen refusal) = IsTrue (is_failure seen) → refusal ≡ Device
ReportsFailure _ = ⊤

-- what another program has isn't free
abbrev pub refusal_of : OpenError → Refusal
refusal_of InUse = Device
refusal_of (Seen seen refusal) = refusal
refusal_of (Refused refusal) = refusal
