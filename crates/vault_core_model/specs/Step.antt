-- The history machine: what is judged of each command, one step, a run of steps, and the vaults that are reached.
use Rattle.std.specs.Prelude.{◌≡◌, ℕ, List, [], ◌∷◌, Bool, true, false, IsTrue, ◌⊎◌, Result, Ok, Err}
use Rattle.vault_base.specs.declared.refusal.Refusal.{Refusal}
use Rattle.vault_base.specs.declared.refusal.Refusal.TheVariants.{Memory, Device}
use Rattle.vault_rules.specs.KeyPlan.{Planned}
use Rattle.vault_rules.specs.Rules.{is_rule_set}
use Rattle.vault_core_model.specs.declared.command.Command.{Command}
use Rattle.vault_core_model.specs.declared.command.Command.TheVariants as command
use Rattle.vault_core_model.specs.declared.command.Timed.{Timed}
use Rattle.vault_core_model.specs.declared.reply.Answer.{Answer}
use Rattle.vault_core_model.specs.declared.reply.Reply.{Reply}
use Rattle.vault_core_model.specs.declared.reply.Reply.TheVariants.{Done, Refused, Stopped}
use Rattle.vault_core_model.specs.Vault.{Vault, opening_of}
use Rattle.vault_core_model.specs.RecordOutcomes as records
use Rattle.vault_core_model.specs.EntryOutcomes as entries
use Rattle.vault_core_model.specs.LockOutcomes as locks
use Rattle.vault_core_model.specs.ListingOutcome.{list_versions, certificate}
use Rattle.vault_core_model.specs.RunOutcome.{planned_run, AnswersRun}
use Rattle.vault_core_model.specs.IntakeOutcome.{intake}

-- out of memory, or a failing device
abbrev pub is_fault : Refusal → Bool
is_fault Memory = true
is_fault Device = true
is_fault _ = false

-- A command that is judged so may be answered by this reply and leave v'. A refusal, and a fault at any time, leave the vault as it was.
abbrev pub Answers : Result (Answer × Vault) Refusal → Vault → Reply → Vault → Type 0
Answers judged v (Done a) v' = judged ≡ Ok (a, v')
Answers judged v (Refused r) v' = (v' ≡ v) × (IsTrue (is_fault r) ⊎ (judged ≡ Err r))
Answers judged v (Stopped n s) v' = ⊥

-- What is judged of a command: its answer and the vault after it, or the plan of a lifecycle run over a bucket; or the refusal.
pub data Judgement : Type 0 where
  AtOnce : Result (Answer × Vault) Refusal → Judgement
  ByPlan : List ℕ → Result (List Planned) Refusal → Judgement

-- what is judged of the command that this caller gives at t
abbrev pub judged : Vault → ℕ → List ℕ → Command → Judgement
judged v t who (command.AddDept c) = AtOnce (records.add_dept v t who c)
judged v t who (command.AddCaller c) = AtOnce (records.add_caller v t who c)
judged v t who (command.CloseCaller c) = AtOnce (records.close_caller v t who c)
judged v t who (command.AddBucket c) = AtOnce (records.add_bucket v t who c)
judged v t who (command.MoveBucket c) = AtOnce (records.move_bucket v t who c)
judged v t who (command.SetDefault c) = AtOnce (records.set_default v t who c)
judged v t who (command.GetDefault c) = AtOnce (records.get_default v t who c)
judged v t who (command.SetRules c) = AtOnce (records.set_rules v t who c)
judged v t who (command.GetRules c) = AtOnce (records.get_rules v t who c)
judged v t who (command.DropRules c) = AtOnce (records.drop_rules v t who c)
judged v t who (command.Put c) = AtOnce (entries.put v t who c)
judged v t who (command.Get c) = AtOnce (entries.get v t who c)
judged v t who (command.Head c) = AtOnce (entries.head v t who c)
judged v t who (command.ListVersions c) = AtOnce (list_versions v t who c)
judged v t who (command.Delete c) = AtOnce (entries.delete v t who c)
judged v t who (command.DeleteVersion c) = AtOnce (entries.delete_version v t who c)
judged v t who (command.SetRetention c) = AtOnce (locks.set_retention v t who c)
judged v t who (command.GetRetention c) = AtOnce (locks.get_retention v t who c)
judged v t who (command.SetHold c) = AtOnce (locks.set_hold v t who c)
judged v t who (command.GetHold c) = AtOnce (locks.get_hold v t who c)
judged v t who (command.Run c) = ByPlan c.bucket (planned_run v t who c)
judged v t who (command.Report c) = AtOnce (records.report v t who c)
judged v t who (command.Certificate c) = AtOnce (certificate v t who c)
judged v t who (command.Intake c) = AtOnce (intake v t who c)

-- a command that is judged so, at t, may be answered by this reply and leave v'
abbrev pub Follows : Judgement → Vault → ℕ → Reply → Vault → Type 0
Follows (AtOnce done) v t reply v' = Answers done v reply v'
Follows (ByPlan bucket plan) v t reply v' = AnswersRun plan v bucket t reply v'

-- a command that can be given: rules that are no rule set can't
abbrev pub CanBeGiven : Command → Type 0
CanBeGiven (command.SetRules c) = IsTrue (is_rule_set c.rules)
CanBeGiven _ = Unit {0}

-- the command can be given, where that is in question, and the statement holds
abbrev pub GivenAnd : Command → Type 0 → Type 0
GivenAnd (command.SetRules c) holds = CanBeGiven (command.SetRules c) × holds
GivenAnd _ holds = holds

-- from v, the command given at t may be answered so and leave v'; what is no rule set can't be asked for
abbrev pub IsStep : Vault → ℕ → List ℕ → Command → Reply → Vault → Type 0
IsStep v t who c reply v' = GivenAnd c (Follows (judged v t who c) v t reply v')

-- these replies to these commands, one step after another
abbrev pub IsRun : Vault → List Timed → List Reply → Vault → Type 0
IsRun v [] [] v' = v' ≡ v
IsRun v (c ∷ cs) (r ∷ rs) v' = (mid : Vault) × IsStep v c.at c.who c.command r mid × IsRun mid cs rs v'
IsRun v [] (r ∷ rs) v' = ⊥
IsRun v (c ∷ cs) [] v' = ⊥

-- some run leads there from a new vault
abbrev pub Reached : Vault → Type 0
Reached v = (cs : List Timed) × (rs : List Reply) × IsRun (opening_of v.external) cs rs v
