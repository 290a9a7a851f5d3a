-- Exit statuses.
use Rattle.std.specs.Prelude.{◌≡◌, ℕ, Result, Ok, Err}
use Rattle.vaultctl_commands.specs.declared.fault.JobFault.{JobFault}
use Rattle.vaultctl_commands.specs.declared.outcome.Outcome.{Outcome}
use Rattle.vaultctl_commands.specs.declared.outcome.Outcome.TheVariants.{Done, Refused}
use Rattle.vaultctl_machine.specs.declared.open_error.OpenError.{OpenError}

-- 0 where the job was done
abbrev pub status_of : Result Outcome JobFault → ℕ
status_of (Ok Done) = 0
status_of (Ok Refused) = 1
status_of (Err fault) = 1

-- something came of a job, of which this holds, and that is its status
abbrev pub Ends : ℕ → (Result Outcome JobFault → Type 0) → Type 0
Ends status P = (outcome : Result Outcome JobFault) × (status ≡ status_of outcome) × P outcome

-- 0 where a vault was made
abbrev pub made_status : Result (Unit {0}) OpenError → ℕ
made_status (Ok t) = 0
made_status (Err cause) = 1
