-- Each step leaves the vault as it was, or makes permitted changes.
use Rattle.std.proofs.Common.{ℕ, List, [], Result, subst, arith}
use Rattle.vault_base.specs.declared.refusal.Refusal.{Refusal}
use Rattle.vault_core_model.specs.declared.command.Command.{Command}
use Rattle.vault_core_model.specs.declared.command.Command.TheVariants as command
use Rattle.vault_core_model.specs.declared.reply.Answer.{Answer}
use Rattle.vault_core_model.specs.declared.reply.Reply.{Reply}
use Rattle.vault_core_model.specs.declared.reply.Reply.TheVariants.{Done, Refused, Stopped}
use Rattle.vault_core_model.specs.Vault.{Vault}
use Rattle.vault_core_model.specs.Sound.{Sound}
use Rattle.vault_core_model.specs.Step.{Answers, IsStep}
use Rattle.vault_core_run_laws.specs.Chains.{Leads}
use Rattle.vault_core_run_laws.proofs.RecordChanges as records
use Rattle.vault_core_run_laws.proofs.RecordChanges.{Changes, LeadsOnce}
use Rattle.vault_core_run_laws.proofs.EntryChanges as entries
use Rattle.vault_core_run_laws.proofs.LockChanges as locks
use Rattle.vault_core_run_laws.proofs.RuleSets.{are_rules_in}
use Rattle.vault_core_run_laws.proofs.RunChanges.{run-leads}

answers-lead : (judged : Result (Answer × Vault) Refusal) (v v' : Vault) (t : ℕ) (who : List ℕ) (r : Reply) → Changes v t who judged → Answers judged v r v' → LeadsOnce v t who v'
answers-lead judged v v' t who (Done a) changes answers =
    let P : Result (Answer × Vault) Refusal → Type 0 = λ j. Changes v t who j in subst P answers changes
answers-lead judged v v' t who (Refused r) changes answers = ([], answers.0, omega arith)
answers-lead judged v v' t who (Stopped n s) changes answers = absurd answers

pub IsStep-leads : (v v' : Vault) (t : ℕ) (who : List ℕ) (c : Command) (r : Reply) → Sound v → IsStep v t who c r v' → Leads v t who c v'
IsStep-leads v v' t who (command.AddDept c) r sound step = answers-lead _ v v' t who r (records.add_dept-changes v t who c) step
IsStep-leads v v' t who (command.AddCaller c) r sound step = answers-lead _ v v' t who r (records.add_caller-changes v t who c) step
IsStep-leads v v' t who (command.CloseCaller c) r sound step = answers-lead _ v v' t who r (records.close_caller-changes v t who c) step
IsStep-leads v v' t who (command.AddBucket c) r sound step = answers-lead _ v v' t who r (records.add_bucket-changes v t who c) step
IsStep-leads v v' t who (command.MoveBucket c) r sound step = answers-lead _ v v' t who r (records.move_bucket-changes v t who c) step
IsStep-leads v v' t who (command.SetDefault c) r sound step = answers-lead _ v v' t who r (records.set_default-changes v t who c) step
IsStep-leads v v' t who (command.GetDefault c) r sound step = answers-lead _ v v' t who r (records.get_default-changes v t who c) step
IsStep-leads v v' t who (command.SetRules c) r sound step = answers-lead _ v v' t who r (records.set_rules-changes v t who c step.0) step.1
IsStep-leads v v' t who (command.GetRules c) r sound step = answers-lead _ v v' t who r (records.get_rules-changes v t who c) step
IsStep-leads v v' t who (command.DropRules c) r sound step = answers-lead _ v v' t who r (records.drop_rules-changes v t who c) step
IsStep-leads v v' t who (command.Put c) r sound step = answers-lead _ v v' t who r (entries.put-changes v t who c) step
IsStep-leads v v' t who (command.Get c) r sound step = answers-lead _ v v' t who r (entries.get-changes v t who c) step
IsStep-leads v v' t who (command.Head c) r sound step = answers-lead _ v v' t who r (entries.head-changes v t who c) step
IsStep-leads v v' t who (command.ListVersions c) r sound step = answers-lead _ v v' t who r (entries.list_versions-changes v t who c) step
IsStep-leads v v' t who (command.Delete c) r sound step = answers-lead _ v v' t who r (entries.delete-changes v t who c sound) step
IsStep-leads v v' t who (command.DeleteVersion c) r sound step = answers-lead _ v v' t who r (entries.delete_version-changes v t who c) step
IsStep-leads v v' t who (command.SetRetention c) r sound step = answers-lead _ v v' t who r (locks.set_retention-changes v t who c sound) step
IsStep-leads v v' t who (command.GetRetention c) r sound step = answers-lead _ v v' t who r (locks.get_retention-changes v t who c) step
IsStep-leads v v' t who (command.SetHold c) r sound step = answers-lead _ v v' t who r (locks.set_hold-changes v t who c sound) step
IsStep-leads v v' t who (command.GetHold c) r sound step = answers-lead _ v v' t who r (locks.get_hold-changes v t who c) step
IsStep-leads v v' t who (command.Run c) r sound step =
    let run = run-leads v v' t who c r sound (are_rules_in v c.bucket sound) step in
    (run.0, run.1, tt)
IsStep-leads v v' t who (command.Report c) r sound step = answers-lead _ v v' t who r (records.report-changes v t who c) step
IsStep-leads v v' t who (command.Certificate c) r sound step = answers-lead _ v v' t who r (entries.certificate-changes v t who c) step
IsStep-leads v v' t who (command.Intake c) r sound step = answers-lead _ v v' t who r (entries.intake-changes v t who c) step
