use Rattle.std.proofs.Common.{◌≡◌, Bool, IsTrue, take}
use Rattle.std.specs.List.{AllByRecursion}
use Rattle.sqlite.specs.State.{HasCleanDisk, IsUnchanged, KeepsCommit, Survives}
use Rattle.sqlite.specs.Held.{state}
use Rattle.vault_audit_model.specs.Tables.{vault_schema}
use Rattle.vault_store_edits.specs.Trees.{tree_of}
use Rattle.vault_store_edits.specs.Queries.{Stands}
use Rattle.vault_store_edits.proofs.rowids.check_rows.Given as goal

-- nothing is changed, and the rows so far stand
abbrev pub invariant-loop-row : goal.invariant-loop-row
invariant-loop-row g l =
    let old = state g.S.Store l.fn.tx.conn.now in
    let now = state g.S.Store l.tx.conn.now in
    (l.tx.conn.ghost_name ≡ l.fn.tx.conn.ghost_name) × Survives old now (λ _. ⊥)
    × (HasCleanDisk now → IsTrue l.fn.tx.conn.now.in_transaction → KeepsCommit old now × IsTrue l.tx.conn.now.in_transaction)
    × ((external : Bool) → HasCleanDisk now → old.now.schema ≡ vault_schema external → IsTrue old.is_open → IsUnchanged old now × AllByRecursion (Stands (old.now.trees (tree_of l.table))) (take l.row-index l.rows))
