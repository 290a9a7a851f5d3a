-- What was said of what came of a job.
use Rattle.std.specs.Prelude.{ℕ, ◌≡◌, ◌≢◌, ◌⊎◌, IfOk, List, Option, Result, Err}
use Rattle.vaultctl_commands.specs.Evidence.{PrintsLawful, PrintsSeal}
use Rattle.vaultctl_commands.specs.Printed.{PrintsReply}
use Rattle.vaultctl_commands.specs.PrintedIntake.{PrintsIntake}
use Rattle.vaultctl_commands.specs.declared.fault.JobFault.{JobFault}
use Rattle.vaultctl_commands.specs.declared.fault.JobFault.TheVariants as fault
use Rattle.vaultctl_commands.specs.declared.outcome.Outcome.{Outcome}
use Rattle.vaultctl_commands.specs.declared.outcome.Outcome.TheVariants.{Refused}

-- a command's reply was printed, done or refused; no fault of a reader is named, and one of the device is reported in the reply
abbrev pub PrintsAsked : Result Outcome JobFault → Option (List ℕ) → Option (List ℕ) → Type 0
PrintsAsked outcome before after =
    IfOk outcome (λ stated. PrintsReply stated before after) × (outcome ≢ Err fault.Read) × (outcome ≢ Err fault.Device)

-- the lines of an intake were printed, or the reply that refuses it before its first row
abbrev pub PrintsRows : Outcome → Option (List ℕ) → Option (List ℕ) → Type 0
PrintsRows stated before after = PrintsIntake stated before after ⊎ ((stated ≡ Refused) × PrintsReply Refused before after)

-- so it is where an intake is done or refused; no fault of a reader is named, and one of the device is reported in a line
abbrev pub PrintsTakenIn : Result Outcome JobFault → Option (List ℕ) → Option (List ℕ) → Type 0
PrintsTakenIn outcome before after =
    IfOk outcome (λ stated. PrintsRows stated before after) × (outcome ≢ Err fault.Read) × (outcome ≢ Err fault.Device)

-- the four lines of a seal were printed, or the reply that refuses one
abbrev pub PrintsSealed : Result Outcome JobFault → Option (List ℕ) → Option (List ℕ) → Type 0
PrintsSealed outcome before after = IfOk outcome (λ stated. PrintsSeal stated before after)

-- the line that says whether a vault is lawful was printed
abbrev pub PrintsJudged : Result Outcome JobFault → Option (List ℕ) → Option (List ℕ) → Type 0
PrintsJudged outcome before after = IfOk outcome (λ stated. PrintsLawful stated before after)
