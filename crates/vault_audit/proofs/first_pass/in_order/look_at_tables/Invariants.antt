use Rattle.std.proofs.Common.{◌+◌}
use Rattle.sqlite.specs.State.{HasCleanDisk, IsUnchanged, Survives}
use Rattle.sqlite.specs.Held.{state}
use Rattle.vault_audit.proofs.OrderLemmas.{AreRightTo, IsFrom}
use Rattle.vault_audit.proofs.first_pass.in_order.look_at_tables.Given as goal

-- the tables so far are right
abbrev pub invariant-loop-table : goal.invariant-loop-table
invariant-loop-table g l =
    let old = state g.S.Store l.fn.conn in
    let now = state g.S.Store l.conn in
    Survives old now (λ _. ⊥) × IsFrom (l.table-index + 1) l.difference
    × (HasCleanDisk now → IsUnchanged old now × AreRightTo l.schema_version now.now (l.table-index + 1))
