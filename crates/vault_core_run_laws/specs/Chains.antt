-- What a command of a caller does to a vault: permitted changes, one after another.
use Rattle.std.specs.Prelude.{◌≡◌, ◌≤◌, ℕ, List, [], ◌∷◌, length}
use Rattle.vault_core_model.specs.declared.change.Change.{Change}
use Rattle.vault_core_model.specs.declared.command.Command.{Command}
use Rattle.vault_core_model.specs.declared.command.Command.TheVariants as command
use Rattle.vault_core_model.specs.Vault.{Vault}
use Rattle.vault_core_model.specs.Change.{changed}
use Rattle.vault_core_model.specs.Allowed.{Allows}
use Rattle.vault_core_run_laws.specs.Entitled.{IsEntitled}
use Rattle.vault_core_run_laws.specs.Permits.{Permits}

-- a change that the caller may make at t
pub record MayMake (v : Vault) (t : ℕ) (who : List ℕ) (c : Change) : Type 0 where
  pub in_time : v.last ≤ t
  pub allowed : Allows v t c
  pub permitted : Permits v t who c
  pub entitled : IsEntitled v t c

-- changes that the caller may make at t, one after another, lead from v to v'
abbrev pub MayMakeAll : Vault → ℕ → List ℕ → List Change → Vault → Type 0
MayMakeAll v t who [] v' = v' ≡ v
MayMakeAll v t who (c ∷ cs) v' = MayMake v t who c × MayMakeAll (changed v t c) t who cs v'

-- a command makes one change at most; a run of the lifecycle rules any number
abbrev pub AreFew : Command → List Change → Type 0
AreFew (command.Run c) cs = Unit {0}
AreFew _ cs = length cs ≤ 1

-- permitted changes lead from v to v', not more than the command may make
abbrev pub Leads : Vault → ℕ → List ℕ → Command → Vault → Type 0
Leads v t who c v' = (cs : List Change) × MayMakeAll v t who cs v' × AreFew c cs
