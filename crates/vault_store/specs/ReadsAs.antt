-- What a read leaves of a keeper over tables, and when it reports that its store failed.
use Rattle.std.specs.Prelude.{◌≡◌, false, Result}
use Rattle.sqlite_trees.specs.declared.store.Store.{Ghosts}
use Rattle.sqlite.specs.Held.{state}
use Rattle.sqlite.specs.State.{HasCleanDisk}
use Rattle.vault_core_model.specs.declared.halt.Fault.{Fault}
use Rattle.vault_core_model.specs.Halts.{is_device_given}
use Rattle.vault_core_model.specs.Leaves.{Standing, IsLeftSame}
use Rattle.vault_audit.specs.Health.{IsHealthy}
use Rattle.vault_store.specs.declared.sql_keeper.SqlKeeper.{SqlKeeper}
use Rattle.vault_store.specs.VaultOf.{vault_of}

-- whether its disk has returned what was written, its vault, and how often its store failed
abbrev pub stands : {S : Type 0} (g : Ghosts S) → SqlKeeper S g → Standing
stands g k = record { is_honest = HasCleanDisk (state g k.conn); vault = vault_of g k; count = k.blamed.faults }

-- it leaves what a read leaves of any keeper, reports no failure of a store that works, and notes no change as refused, nor forgets one that was
pub record ReadsAs {S X : Type 0} (g : Ghosts S) (old new : SqlKeeper S g) (result : Result X Fault) : Type 0 where
  pub leaves : IsLeftSame (stands g old) (stands g new) (is_device_given result)
  pub healthy : IsHealthy (state g new.conn) → is_device_given result ≡ false
  pub refused : new.refused.items ≡ old.refused.items
