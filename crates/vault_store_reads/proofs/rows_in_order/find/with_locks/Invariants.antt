use Rattle.std.proofs.Common.{◌≡◌, ◌++◌, false, map, drop, IsTrue}
use Rattle.sqlite.specs.Held.{state}
use Rattle.sqlite.specs.State.{HasCleanDisk, Survives}
use Rattle.vault_core_model.specs.Vault.{Vault}
use Rattle.vault_store_model.specs.Keeping.{Keeps}
use Rattle.vault_store_reads.specs.Quiet.{IsQuiet}
use Rattle.vault_store_reads.specs.Shown.{with_lock_in}
use Rattle.vault_store_reads.proofs.rows_in_order.find.with_locks.Given as goal

abbrev pub invariant-loop-entry : goal.invariant-loop-entry
invariant-loop-entry g l =
    let old = state g.S.Store l.fn.conn in
    let now = state g.S.Store l.conn in
    record {
      locked : HasCleanDisk now → (v : Vault) → Keeps old v → l.locked.items ++ map (with_lock_in v) (drop l.entry-index l.entries) ≡ map (with_lock_in v) l.entries;
      same : HasCleanDisk now → (v : Vault) → Keeps old v → Keeps now v;
      honest : HasCleanDisk now → HasCleanDisk old;
      mode : l.fn.conn.in_transaction ≡ false → l.conn.in_transaction ≡ false;
      survives : Survives old now (IsQuiet old);
      opened : HasCleanDisk now → IsTrue old.is_open → IsTrue now.is_open;
    }
