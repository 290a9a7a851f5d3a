-- A script over a new vault.
use Rattle.std.specs.Prelude.{◌≡◌, ◌⊎◌, ℕ, List, Option, Result, Err}
use Rattle.vault_core_model.specs.Vault.{Vault, opening}
use Rattle.vaultctl_commands.specs.declared.fault.JobFault.{JobFault}
use Rattle.vaultctl_commands.specs.declared.fault.JobFault.TheVariants.{Memory}
use Rattle.vaultctl_commands.specs.declared.outcome.Outcome.{Outcome}
use Rattle.vaultctl_work.specs.Done.{IsScriptAnswered}
use Rattle.vaultctl_work.specs.Scene.{scene}

-- It was answered from a new vault on; or memory for that was refused, and nothing was read or printed. Memory has no device, and counts no failure: so no reply says that it failed.
abbrev pub AnswersFromNew : Result Outcome JobFault → Option (List ℕ) → Option (List ℕ) → Option (List ℕ) → Option (List ℕ) → Type 0
AnswersFromNew outcome input left before after =
    ((v : Vault) × IsScriptAnswered 0 0 outcome (scene opening input before) (scene v left after)) ⊎ ((outcome ≡ Err Memory) × (left ≡ input) × (after ≡ before))
