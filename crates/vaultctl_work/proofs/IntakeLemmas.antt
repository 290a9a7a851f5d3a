-- What an intake says, whatever was taken in.
use Rattle.std.proofs.Common.{◌≡◌, ℕ, List, [], Bool, true, false, Option, None, Some, Result, inl, inr, refl, subst}
use Rattle.std.specs.Prelude.{IfOk}
use Rattle.std.specs.Io.KnownBytes.{Appends}
use Rattle.vault_base.specs.declared.refusal.Refusal.{Refusal}
use Rattle.vault_base.specs.declared.refusal.Refusal.TheVariants.{Device}
use Rattle.vault_core_model.specs.Vault.{Vault}
use Rattle.vault_core_model.specs.declared.reply.Reply.TheVariants as reply
use Rattle.vault_files.specs.TakenIn.{report_names_device}
use Rattle.vault_files.specs.RowReply.{RowReply}
use Rattle.vault_files.specs.Lines.{lines, stopped_line}
use Rattle.vaultctl_commands.specs.Printed.{printed}
use Rattle.vaultctl_commands.specs.PrintedIntake.{IsIntakeSteady, PrintsIntake, intake_outcome}
use Rattle.vaultctl_commands.specs.declared.asked.AskedIntake.{AskedIntake}
use Rattle.vaultctl_commands.specs.declared.fault.JobFault.{JobFault}
use Rattle.vaultctl_commands.specs.declared.outcome.Outcome.{Outcome}
use Rattle.vaultctl_commands.specs.declared.outcome.Outcome.TheVariants.{Done, Refused}
use Rattle.vaultctl_work.specs.Done.{IsTakenInAt, IsTakenInThen}
use Rattle.vaultctl_work.specs.Printed.{PrintsRows}

-- the count is as it was, or the lines say that a device failed
pub steady_by : (n n' : ℕ) (result : Result Outcome JobFault) (before after : Option (List ℕ)) (rows : List RowReply) (stopped : Option Refusal)
    → IfOk result (λ stated. (stated ≡ intake_outcome rows stopped) × Appends before after (lines rows stopped)) → (report_names_device rows stopped ≡ false → n' ≡ n) → IsIntakeSteady n n' result before after
steady_by n n' result before after rows stopped printed same = cases (report_names_device rows stopped) refl
  where
    cases : (stated : Bool) → report_names_device rows stopped ≡ stated → IsIntakeSteady n n' result before after
    cases true e = inr (rows, stopped, e, printed)
    cases false e = inl (same e)

-- a stop alone is what is said of an intake without rows
pub stop_stated : (stated : Outcome) (before after : Option (List ℕ)) → (stated ≡ Refused) × Appends before after (stopped_line Device) → PrintsRows stated before after
stop_stated stated before after (is, it) = inl ([], Some Device, (is, it))

pub refusal_stated : (refusal : Refusal) (stated : Outcome) (before after : Option (List ℕ)) → (stated ≡ Refused) × Appends before after (printed (reply.Refused refusal)) → PrintsRows stated before after
refusal_stated refusal stated before after (is, it) = inr (is, (reply.Refused refusal, refl, it))

-- what is done is reported by lines
pub done_stated : (before after : Option (List ℕ)) → PrintsRows Done before after → PrintsIntake Done before after
done_stated before after (inl it) = it
done_stated before after (inr (is, it)) = absurd (cc is)

-- the reading that is given is the one that was taken
pub taken_then : (asked : AskedIntake) (outcome : Result Outcome JobFault) (v v' : Vault) (before after : Option (List ℕ)) (given : Option ℕ) (at : ℕ) → ((t : ℕ) → given ≡ Some t → Some at ≡ Some t)
    → IsTakenInAt at asked outcome v v' before after → IsTakenInThen given asked outcome v v' before after
taken_then asked outcome v v' before after None at same it = (at, it)
taken_then asked outcome v v' before after (Some t) at same it = subst (λ (o : Option ℕ). IsTakenInThen o asked outcome v v' before after) (same t refl) it
