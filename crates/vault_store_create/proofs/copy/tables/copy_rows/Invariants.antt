use Rattle.std.proofs.Common.{◌≡◌, [], List, IsTrue}
use Rattle.sqlite_value.specs.Order.{Row}
use Rattle.sqlite.specs.State.{HasCleanDisk, IsUnchanged, Survives}
use Rattle.sqlite.specs.Held.{state}
use Rattle.sqlite.specs.Given.{HasGiven}
use Rattle.vault_audit_rows.specs.Walk.{Goes}
use Rattle.vault_store_create.specs.Copied.{PutsRow}
use Rattle.vault_store_create.proofs.copy.tables.copy_rows.Given as goal

abbrev pub invariant-rows : goal.invariant-rows
invariant-rows g l =
    let old = state g.O.Store l.fn.old in
    let now = state g.O.Store l.rows.conn.now in
    let before = state g.S.Store l.fn.tx.conn.now in
    let after = state g.S.Store l.tx.conn.now in
    (l.rows.conn.ghost_name ≡ l.initial.rows.conn.ghost_name) × (l.tx.conn.ghost_name ≡ l.fn.tx.conn.ghost_name) × Survives old now (λ _. ⊥) × Survives before after (λ _. ⊥)
    × (HasCleanDisk after → IsTrue l.fn.tx.conn.now.in_transaction → IsTrue before.is_open → IsTrue l.tx.conn.now.in_transaction × IsTrue after.is_open × (after.committed ≡ before.committed))
    × (HasCleanDisk now → (given : List Row) × HasGiven g.O.Store l.select [] l.rows.conn.now given × IsUnchanged old now
    × (HasCleanDisk after → IsTrue l.fn.tx.conn.now.in_transaction → IsTrue before.is_open → Goes (λ x row y. PutsRow l.external l.table row x y) before.now given after.now))
