-- What a run begins with, and its replies.
use Rattle.std.specs.Prelude.{◌≡◌, ℕ, List, [], Option, Some, None, Result, Ok, Err}
use Rattle.vault_base.specs.declared.refusal.Refusal.{Refusal}
use Rattle.vault_base.specs.declared.refusal.Refusal.TheVariants as refusal
use Rattle.vault_rules.specs.KeyPlan.{Planned}
use Rattle.vault_core_model.specs.declared.halt.Fault.TheVariants as fault
use Rattle.vault_core_model.specs.declared.halt.Halt.{Halt}
use Rattle.vault_core_model.specs.declared.halt.Halt.TheVariants as halt
use Rattle.vault_core_model.specs.declared.reply.Stop.{Stop}
use Rattle.vault_core_model.specs.declared.reply.Stop.TheVariants as stop
use Rattle.vault_core_model.specs.declared.reply.Reply.{Reply}
use Rattle.vault_core_model.specs.declared.reply.Reply.TheVariants as reply
use Rattle.vault_core_model.specs.Vault.{Vault}
use Rattle.vault_core_model.specs.Halts.{HaltsAs}
use Rattle.vault_core_model.specs.Plan.{plan, rules_in}
use Rattle.vault_core_run_laws.specs.KeyRuns.{MayRun}
use Rattle.vault_core_runs.specs.declared.change.BucketRun.{BucketRun}

-- a run over that bucket at t, which may begin
pub record IsRunOver (v : Vault) (bucket : List ℕ) (t : ℕ) (r : BucketRun) : Type 0 where
  pub over : r.bucket ≡ bucket
  pub now : r.at ≡ t
  pub given : rules_in v bucket ≡ r.rules
  pub may : MayRun v bucket t

-- the plan is that of the run that begins; without rules it is empty
abbrev pub Begins : Option BucketRun → Vault → List ℕ → ℕ → Result (List Planned) Refusal → Type 0
Begins None v bucket t judged = judged ≡ Ok []
Begins (Some r) v bucket t judged = IsRunOver v bucket t r × (judged ≡ Ok (plan v bucket t))

-- a run begins as it is judged, or a fault came
abbrev pub BeginsAs : Result (Option BucketRun) Halt → Vault → List ℕ → ℕ → Result (List Planned) Refusal → Type 0
BeginsAs (Ok found) v bucket t judged = Begins found v bucket t judged
BeginsAs (Err e) v bucket t judged = HaltsAs e judged

-- the reply where no run began
abbrev pub not_begun : Halt → Reply
not_begun (halt.Refused r) = reply.Refused r
not_begun (halt.Fault fault.Memory) = reply.Stopped 0 stop.Memory
not_begun (halt.Fault fault.Device) = reply.Stopped 0 stop.Device

-- what stops a run that has begun
abbrev pub stop_of : Halt → Stop
stop_of (halt.Refused refusal.Device) = stop.Device
stop_of (halt.Refused _) = stop.VaultFull
stop_of (halt.Fault fault.Memory) = stop.Memory
stop_of (halt.Fault fault.Device) = stop.Device
