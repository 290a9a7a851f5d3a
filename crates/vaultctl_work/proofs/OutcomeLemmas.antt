-- On what came of a job, by what its parts answer.
use Rattle.std.proofs.Common.{◌≡◌, Bool, true, false, Result, Ok, Err}
use Rattle.vaultctl_commands.specs.declared.fault.JobFault.{JobFault}
use Rattle.vaultctl_commands.specs.declared.outcome.Outcome.{Outcome}
use Rattle.vaultctl_commands.specs.declared.outcome.Outcome.TheVariants.{Done}
use Rattle.vaultctl_work.specs.Outcomes.{with_journal}

-- a server whose journal doesn't go on isn't done
pub not_done : (goes_on : Bool) (ended : Result Outcome JobFault) → goes_on ≡ false → with_journal goes_on ended ≡ Ok Done → ⊥
not_done true ended shut is = absurd (cc)
not_done false (Ok outcome) shut is = cc
not_done false (Err fault) shut is = cc
