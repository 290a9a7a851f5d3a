-- What a run of the lifecycle rules over a bucket answers, and the vault after it.
use Rattle.std.specs.Prelude.{◌≡◌, ℕ, ◌<◌, ◌≤◌, List, length, take, ◌⊎◌, Result, Ok, Err}
use Rattle.vault_base.specs.declared.refusal.Refusal.{Refusal}
use Rattle.vault_base.specs.declared.right.Right.TheVariants as right
use Rattle.vault_rules.specs.KeyPlan.{Planned}
use Rattle.vault_core_model.specs.declared.command.Run.{Run}
use Rattle.vault_core_model.specs.declared.reply.Answer.TheVariants as answer
use Rattle.vault_core_model.specs.declared.reply.Stop.{Stop}
use Rattle.vault_core_model.specs.declared.reply.Stop.TheVariants as stop
use Rattle.vault_core_model.specs.declared.reply.Reply.{Reply}
use Rattle.vault_core_model.specs.declared.reply.Reply.TheVariants.{Done, Refused, Stopped}
use Rattle.vault_core_model.specs.Vault.{Vault}
use Rattle.vault_core_model.specs.Plan.{plan, after_steps, counts, with_ids}
use Rattle.vault_core_model.specs.Checks.{◌>>=◌, access}

-- the whole plan of a run that is asked for, or the first check that fails
abbrev pub planned_run : Vault → ℕ → List ℕ → Run → Result (List Planned) Refusal
planned_run v t who c = do
  _ ← access v t who c.bucket right.Run
  Ok (plan v c.bucket t)

-- the first n steps of the plan are made, each mark with an id that was left, and the rest isn't
abbrev pub MakesFirst : ℕ → List Planned → Vault → List ℕ → ℕ → Vault → Type 0
MakesFirst n ps v bucket t v' = (n ≤ length (with_ids (length v.histories) ps)) × (v' ≡ after_steps v bucket t (take n ps))

-- a fault stops a run before any change, also where a check fails; or after the first n changes of its plan
abbrev pub StopsByFault : Result (List Planned) Refusal → ℕ → Vault → List ℕ → ℕ → Vault → Type 0
StopsByFault judged n v bucket t v' =
    ((n ≡ 0) × (v' ≡ v)) ⊎ ((ps : List Planned) × (judged ≡ Ok ps) × MakesFirst n ps v bucket t v')

-- want of an id stops a run at the first mark that finds none
abbrev pub StopsFull : Result (List Planned) Refusal → ℕ → Vault → List ℕ → ℕ → Vault → Type 0
StopsFull judged n v bucket t v' =
    (ps : List Planned) × (judged ≡ Ok ps) × (n ≡ length (with_ids (length v.histories) ps)) × (n < length ps)
    × (v' ≡ after_steps v bucket t (take n ps))

abbrev pub Stops : Stop → Result (List Planned) Refusal → ℕ → Vault → List ℕ → ℕ → Vault → Type 0
Stops stop.Memory = StopsByFault
Stops stop.Device = StopsByFault
Stops stop.VaultFull = StopsFull

-- A run that is judged so may be answered by this reply and leave v': the whole plan is made, or a check fails and nothing is, or it stops within the plan.
abbrev pub AnswersRun : Result (List Planned) Refusal → Vault → List ℕ → ℕ → Reply → Vault → Type 0
AnswersRun judged v bucket t (Done a) v' =
    (ps : List Planned) × (judged ≡ Ok ps) × (a ≡ answer.Ran (counts ps))
    × (with_ids (length v.histories) ps ≡ ps) × (v' ≡ after_steps v bucket t ps)
AnswersRun judged v bucket t (Refused r) v' = (v' ≡ v) × (judged ≡ Err r)
AnswersRun judged v bucket t (Stopped n s) v' = Stops s judged n v bucket t v'
