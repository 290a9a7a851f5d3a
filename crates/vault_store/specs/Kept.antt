-- The vault that a store keeps: the one that its tables stated when it was opened, with the changes made since.
use Rattle.std.specs.Prelude.{◌≡◌, ℕ, Bool, List, [], ◌∷◌, IsTrue}
use Rattle.sqlite_trees.specs.declared.store.Store.{Ghosts}
use Rattle.sqlite.specs.Held.{Held}
use Rattle.sqlite.specs.State.{State}
use Rattle.vault_core_model.specs.Change.{changed}
use Rattle.vault_core_model.specs.declared.change.Change.{Change}
use Rattle.vault_core_model.specs.Vault.{Vault}
use Rattle.vault_core_model.specs.Sound.{Sound}
use Rattle.vault_audit_model.specs.Spells.{AreSound}
use Rattle.vault_store_model.specs.Keeping.{Keeps}
use Rattle.vault_store.specs.Opening.{IsKnown, noted_vault}

-- the vault after these changes, each with its moment
abbrev pub after : Vault → List (ℕ × Change) → Vault
after v [] = v
after v (c ∷ cs) = after (changed v c.0 c.1) cs

abbrev pub kept_vault : {S : Type 0} (g : Ghosts S) (opened : List (Held S × Bool)) → IsKnown g opened → List (ℕ × Change) → Vault
kept_vault g opened known made = after (noted_vault g opened known) made

-- a connection is open, its tables are sound, and all is committed
pub record IsSettled (s : State) : Type 0 where
  pub is_open : IsTrue s.is_open
  pub sound : (v : Vault) × AreSound s.now v
  pub committed : s.committed ≡ s.now

-- a connection keeps a sound vault: while it is open, its tables spell that
pub record StandsFor (s : State) (v : Vault) : Type 0 where
  pub sound : Sound v
  pub keeps : Keeps s v
