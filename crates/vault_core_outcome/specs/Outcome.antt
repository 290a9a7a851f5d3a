-- The replies where neither memory nor the device fails: the machine as a function.
use Rattle.std.specs.Prelude.{◌≡◌, Bool, true, false, ℕ, nat_lt, List, [], ◌∷◌, length, Result, Ok, Err, if◌then◌else◌}
use Rattle.vault_base.specs.declared.refusal.Refusal.{Refusal}
use Rattle.vault_core_model.specs.declared.command.Command.{Command}
use Rattle.vault_core_model.specs.declared.command.Timed.{Timed}
use Rattle.vault_core_model.specs.declared.reply.Answer.{Answer}
use Rattle.vault_core_model.specs.declared.reply.Answer.TheVariants as answer
use Rattle.vault_core_model.specs.declared.reply.Stop.TheVariants.{Memory, Device, VaultFull}
use Rattle.vault_core_model.specs.declared.reply.Reply.{Reply}
use Rattle.vault_core_model.specs.declared.reply.Reply.TheVariants.{Done, Refused, Stopped}
use Rattle.vault_core_model.specs.Vault.{Vault}
use Rattle.vault_rules.specs.KeyPlan.{Planned}
use Rattle.vault_core_model.specs.Plan.{after_steps, counts, with_ids}
use Rattle.vault_core_model.specs.Step.{Judgement, AtOnce, ByPlan, is_fault, judged}

-- a reply, and the vault after it
pub record Outcome : Type 0 where
  pub reply : Reply
  pub vault : Vault

-- the outcome of a command that is judged so
abbrev pub settled : Vault → Result (Answer × Vault) Refusal → Outcome
settled v (Ok done) = record { reply = Done done.0; vault = done.1 }
settled v (Err r) = record { reply = Refused r; vault = v }

-- the outcome of a run: as many steps of its plan as find their ids
abbrev pub run_made : Vault → List ℕ → ℕ → List Planned → List Planned → Outcome
run_made v bucket t plan steps =
    if nat_lt (length steps) (length plan)
    then record { reply = Stopped (length steps) VaultFull; vault = after_steps v bucket t steps }
    else record { reply = Done (answer.Ran (counts plan)); vault = after_steps v bucket t plan }

abbrev pub run_settled : Vault → List ℕ → ℕ → Result (List Planned) Refusal → Outcome
run_settled v bucket t (Ok plan) = run_made v bucket t plan (with_ids (length v.histories) plan)
run_settled v bucket t (Err r) = record { reply = Refused r; vault = v }

-- the outcome of a command that is judged so at t
abbrev pub outcome_judged : Judgement → Vault → ℕ → Outcome
outcome_judged (AtOnce done) v t = settled v done
outcome_judged (ByPlan bucket plan) v t = run_settled v bucket t plan

-- the outcome of a command given at t
abbrev pub outcome : Vault → ℕ → List ℕ → Command → Outcome
outcome v t who c = outcome_judged (judged v t who c) v t

-- the vault after these commands
abbrev pub vault_after : Vault → List Timed → Vault
vault_after v [] = v
vault_after v (c ∷ cs) = vault_after (outcome v c.at c.who c.command).vault cs

-- the replies to these commands
abbrev pub replies_to : Vault → List Timed → List Reply
replies_to v [] = []
replies_to v (c ∷ cs) = (outcome v c.at c.who c.command).reply ∷ replies_to (outcome v c.at c.who c.command).vault cs

-- the reply reports out of memory or of a failing device
abbrev pub reports_fault : Reply → Bool
reports_fault (Done a) = false
reports_fault (Refused r) = is_fault r
reports_fault (Stopped n Memory) = true
reports_fault (Stopped n Device) = true
reports_fault (Stopped n VaultFull) = false

-- the reply and the vault are those of the outcome
abbrev pub IsOutcome : Outcome → Reply → Vault → Type 0
IsOutcome o r v' = (r ≡ o.reply) × (v' ≡ o.vault)
