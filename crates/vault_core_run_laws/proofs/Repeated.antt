-- Lifecycle runs that were cut, and a last one that was done, are one run.
use Rattle.std.proofs.Common.{◌≤◌, ℕ, List, [], ◌∷◌, sum_by, sym, subst, refl}
use Rattle.vault_core_model.specs.declared.command.Command.{Command}
use Rattle.vault_core_model.specs.declared.command.Timed.{Timed}
use Rattle.vault_core_model.specs.declared.reply.Reply.{Reply}
use Rattle.vault_core_model.specs.Vault.{Vault}
use Rattle.vault_core_model.specs.Sound.{Sound}
use Rattle.vault_core_model.specs.Step.{IsRun, IsStep}
use Rattle.vault_core_laws.proofs.Soundness.{AreInOrder-later}
use Rattle.vault_core_run_laws.specs.Repeats.{IsOrderly, IsCompleted, changes_reported, runs_by}
use Rattle.vault_core_run_laws.proofs.Repeating.{cut_runs_add_up, runs_repeat}
use Rattle.vault_core_run_laws.specs.Repeated.{BeginRun, CompleteRun, one_command}
use Rattle.vault_core_run_laws.proofs.RuleSets.{are_rules_in}

is_orderly : (v : Vault) (bucket : List ℕ) (t : ℕ) → Sound v → v.last ≤ t → IsOrderly v bucket t
is_orderly v bucket t sound le = record {
  ids = sound.ids;
  order = AreInOrder-later 0 v.last t v.histories le sound.order;
  rules = are_rules_in v bucket sound;
}

pub run-begins : (v w : Vault) (commands : List Timed) (replies : List Reply) → Sound v → IsRun v commands replies w → BeginRun v commands replies w
run-begins v w commands replies sound run = λ bucket t callers le e cut.
    let P : List Timed → Type 0 = λ cs. IsRun v cs replies w in
    cut_runs_add_up v w bucket t callers replies (is_orderly v bucket t sound le) cut (subst P e run)

pub run-completes : (v w : Vault) (commands : List Timed) (replies : List Reply) → Sound v → IsRun v commands replies w → CompleteRun v commands replies w
run-completes v w commands replies sound run = λ bucket t callers cut last le e are f.
    let P : List Timed → Type 0 = λ cs. IsRun v cs replies w in
    let Q : List Reply → Type 0 = λ rs. IsRun v (runs_by bucket t callers) rs w in
    let R : List Reply → Type 0 = λ rs. IsCompleted v w bucket t (sum_by changes_reported rs) in
    subst R (sym f) (runs_repeat v w bucket t callers cut last (is_orderly v bucket t sound le) are (subst Q f (subst P e run)))

-- ---- one command

pub step-begins : (v w : Vault) (t : ℕ) (who : List ℕ) (c : Command) (r : Reply) → Sound v → IsStep v t who c r w → BeginRun v (one_command t who c) (r ∷ []) w
step-begins v w t who c r sound step = run-begins v w (one_command t who c) (r ∷ []) sound (w, step, refl)

pub step-completes : (v w : Vault) (t : ℕ) (who : List ℕ) (c : Command) (r : Reply) → Sound v → IsStep v t who c r w → CompleteRun v (one_command t who c) (r ∷ []) w
step-completes v w t who c r sound step = run-completes v w (one_command t who c) (r ∷ []) sound (w, step, refl)
