-- What stays of the vault that a connection keeps.
use Rattle.sqlite.specs.State.{HasCleanDisk}
use Rattle.sqlite_trees.specs.declared.store.Store.{Ghosts}
use Rattle.sqlite.specs.Held.{Held, state}
use Rattle.vault_core_model.specs.Vault.{Vault}
use Rattle.vault_store_model.specs.Keeping.{Keeps}

-- a vault that was kept is, and the disk has returned what was written only if it had before
pub record LeavesKept {S : Type 0} (g : Ghosts S) (old new : Held S) : Type 0 where
  pub same : HasCleanDisk (state g new) → (v : Vault) → Keeps (state g old) v → Keeps (state g new) v
  pub honest : HasCleanDisk (state g new) → HasCleanDisk (state g old)
