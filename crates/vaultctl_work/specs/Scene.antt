-- What a job works on.
use Rattle.std.specs.Prelude.{ℕ, List, Option}
use Rattle.vault_core_model.specs.Vault.{Vault}

-- a vault, what is left of an input, and what an output has got; none where the input or the output doesn't say
pub record Scene : Type 0 where
  pub vault : Vault
  pub input : Option (List ℕ)
  pub output : Option (List ℕ)

abbrev pub scene : Vault → Option (List ℕ) → Option (List ℕ) → Scene
scene vault input output = record { vault = vault; input = input; output = output }
