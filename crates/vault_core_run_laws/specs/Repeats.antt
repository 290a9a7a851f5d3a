-- A run that stopped may be given again.
use Rattle.std.specs.Prelude.{◌≡◌, ℕ, ◌≤◌, List, [], ◌∷◌, ◌++◌, length, map, take, drop, sum_by, IsTrue}
use Rattle.vault_rules.specs.Rules.{are_rules}
use Rattle.vault_core_model.specs.declared.command.Timed.{Timed}
use Rattle.vault_core_model.specs.declared.command.Command.TheVariants as command
use Rattle.vault_core_model.specs.declared.reply.Answer.{Answer}
use Rattle.vault_core_model.specs.declared.reply.Answer.TheVariants.{Ran}
use Rattle.vault_core_model.specs.declared.reply.Counts.{Counts}
use Rattle.vault_core_model.specs.declared.reply.Reply.{Reply}
use Rattle.vault_core_model.specs.declared.reply.Reply.TheVariants.{Done, Refused, Stopped}
use Rattle.vault_core_model.specs.declared.reply.Stop.TheVariants as stop
use Rattle.vault_core_model.specs.Vault.{Vault}
use Rattle.vault_core_model.specs.Sound.{AreIdsFrom, AreInOrder}
use Rattle.vault_core_model.specs.Plan.{plan, after_steps, rules_in}
use Rattle.vault_core_model.specs.Step.{IsStep, IsRun}

-- ids are 1, 2, 3 .., no admission goes back or is after t, and the bucket has no rules or a list that it may have
pub record IsOrderly (v : Vault) (bucket : List ℕ) (t : ℕ) : Type 0 where
  pub ids : AreIdsFrom 1 v.histories
  pub order : AreInOrder 0 t v.histories
  pub rules : IsTrue (are_rules (rules_in v bucket))

-- after the first n changes of the plan, the rest is the plan
abbrev pub VaultPlansRepeat : Type 0
VaultPlansRepeat =
    (v : Vault) (bucket : List ℕ) (t n : ℕ) → IsOrderly v bucket t
    → plan (after_steps v bucket t (take n (plan v bucket t))) bucket t ≡ drop n (plan v bucket t)

-- the reply says that a fault stopped the run
abbrev pub IsCut : Reply → Type 0
IsCut (Done a) = ⊥
IsCut (Refused r) = ⊥
IsCut (Stopped n stop.Memory) = Unit {0}
IsCut (Stopped n stop.Device) = Unit {0}
IsCut (Stopped n stop.VaultFull) = ⊥

abbrev pub AreCut : List Reply → Type 0
AreCut [] = Unit {0}
AreCut (r ∷ rs) = IsCut r × AreCut rs

-- how many changes it says that the run made
abbrev pub changes_reported : Reply → ℕ
changes_reported (Done (Ran n)) = n.changes
changes_reported (Done _) = 0
changes_reported (Refused r) = 0
changes_reported (Stopped n s) = n

-- runs over the bucket at t, asked for by these callers
abbrev pub runs_by : List ℕ → ℕ → List (List ℕ) → List Timed
runs_by bucket t callers = map (λ who. record { at = t; who = who; command = command.Run (record { bucket = bucket }) }) callers

-- what cut runs leave: so much of the first vault's plan is made as they say, and the rest of it is the plan
pub record IsBegun (v v' : Vault) (bucket : List ℕ) (t stated : ℕ) : Type 0 where
  pub within : stated ≤ length (plan v bucket t)
  pub left : v' ≡ after_steps v bucket t (take stated (plan v bucket t))
  pub rest : plan v' bucket t ≡ drop stated (plan v bucket t)

-- runs over one bucket at one moment, each cut by a fault
abbrev pub CutRunsAddUp : Type 0
CutRunsAddUp =
    (v v' : Vault) (bucket : List ℕ) (t : ℕ) (callers : List (List ℕ)) (cut : List Reply)
    → IsOrderly v bucket t → AreCut cut
    → IsRun v (runs_by bucket t callers) cut v'
    → IsBegun v v' bucket t (sum_by changes_reported cut)

-- no change at all
abbrev pub no_change : Counts
no_change = record { changes = 0; marked = 0; removed = 0; lone = 0 }

-- what runs leave of which the last one was done: the vault of one unbroken run; the changes that they state are those of its plan; one run more that is done changes nothing and says so
pub record IsCompleted (v v' : Vault) (bucket : List ℕ) (t stated : ℕ) : Type 0 where
  pub unbroken : v' ≡ after_steps v bucket t (plan v bucket t)
  pub changes : stated ≡ length (plan v bucket t)
  pub idle : (who : List ℕ) (a : Answer) (v'' : Vault) → IsStep v' t who (command.Run (record { bucket = bucket })) (Done a) v''
      → (a ≡ Ran no_change) × (v'' ≡ v')

-- the same, and a last one that is done
abbrev pub RunsRepeat : Type 0
RunsRepeat =
    (v v' : Vault) (bucket : List ℕ) (t : ℕ) (callers : List (List ℕ)) (cut : List Reply) (last : Answer)
    → IsOrderly v bucket t → AreCut cut
    → IsRun v (runs_by bucket t callers) (cut ++ Done last ∷ []) v'
    → IsCompleted v v' bucket t (sum_by changes_reported (cut ++ Done last ∷ []))
