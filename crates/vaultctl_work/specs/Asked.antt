-- What comes of what is asked of a vault.
use Rattle.std.specs.Prelude.{ℕ, ◌≡◌, ◌⊎◌, List, IfOk, Option, None, Some, Result}
use Rattle.std.specs.Io.KnownBytes.{Appends}
use Rattle.vault_base.specs.declared.refusal.Refusal.TheVariants.{ClockOutOfRange}
use Rattle.vault_core_model.specs.Leaves.{count_after}
use Rattle.vault_core_model.specs.Halts.{is_device_reply}
use Rattle.vault_core_model.specs.Step.{IsStep}
use Rattle.vault_core_model.specs.Vault.{Vault}
use Rattle.vault_core_model.specs.declared.reply.Reply.{Reply}
use Rattle.vault_core_model.specs.declared.reply.Reply.TheVariants.{Refused}
use Rattle.vaultctl_commands.specs.Printed.{outcome_of, printed}
use Rattle.vaultctl_commands.specs.declared.fault.JobFault.{JobFault}
use Rattle.vaultctl_commands.specs.declared.outcome.Outcome.{Outcome}
use Rattle.vaultctl_commands.specs.declared.outcome.Outcome.TheVariants as came
use Rattle.vaultctl_commands.specs.declared.asked.AskedCommand.{AskedCommand}

-- it was done by one step at that reading, and the reply to it is printed where no fault stopped that
abbrev pub IsDone : ℕ → AskedCommand → Vault → Vault → Result Outcome JobFault → Option (List ℕ) → Option (List ℕ) → Type 0
IsDone at asked v v' outcome before after =
    (reply : Reply) × IsStep v at asked.who asked.command reply v' × IfOk outcome (λ stated. (stated ≡ outcome_of reply) × Appends before after (printed reply))

-- the clock shows no moment: that is reported, and nothing is done
abbrev pub IsUnread : Vault → Vault → Result Outcome JobFault → Option (List ℕ) → Option (List ℕ) → Type 0
IsUnread v v' outcome before after = (v' ≡ v) × IfOk outcome (λ stated. (stated ≡ came.Refused) × Appends before after (printed (Refused ClockOutOfRange)))

-- at the reading that is given, or else at one of the clock's, or without one
abbrev pub IsDoneAt : Option ℕ → AskedCommand → Vault → Vault → Result Outcome JobFault → Option (List ℕ) → Option (List ℕ) → Type 0
IsDoneAt (Some at) asked v v' outcome before after = IsDone at asked v v' outcome before after
IsDoneAt None asked v v' outcome before after = ((at : ℕ) × IsDone at asked v v' outcome before after) ⊎ IsUnread v v' outcome before after

-- One step was made at that reading, and its reply is printed where anything is. The count of failures is one more, up to its greatest value, exactly where the reply reports that the device failed. Honest says that the device has returned what was written.
abbrev pub IsSteady : Type 0 → ℕ → AskedCommand → Vault → Vault → ℕ → ℕ → Result Outcome JobFault → Option (List ℕ) → Option (List ℕ) → Type 0
IsSteady Honest at asked v v' n n' result before after =
    (reply : Reply) × (Honest → IsStep v at asked.who asked.command reply v') × IfOk result (λ stated. (stated ≡ outcome_of reply) × Appends before after (printed reply))
    × (n' ≡ count_after n (is_device_reply reply))

-- the clock shows no moment: nothing is done, and the count is as it was
abbrev pub IsUnreadSteady : Vault → Vault → ℕ → ℕ → Result Outcome JobFault → Option (List ℕ) → Option (List ℕ) → Type 0
IsUnreadSteady v v' n n' result before after = (n' ≡ n) × IsUnread v v' result before after

-- the same at the reading that is given, or else at one of the clock's
abbrev pub IsSteadyAt : Type 0 → Option ℕ → AskedCommand → Vault → Vault → ℕ → ℕ → Result Outcome JobFault → Option (List ℕ) → Option (List ℕ) → Type 0
IsSteadyAt Honest (Some at) asked v v' n n' result before after = IsSteady Honest at asked v v' n n' result before after
IsSteadyAt Honest None asked v v' n n' result before after = ((at : ℕ) × IsSteady Honest at asked v v' n n' result before after) ⊎ IsUnreadSteady v v' n n' result before after
