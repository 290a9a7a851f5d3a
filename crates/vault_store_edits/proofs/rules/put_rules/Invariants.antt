use Rattle.std.proofs.Common.{◌≡◌, Bool, IsTrue, take}
use Rattle.std.specs.List.{AllByRecursion}
use Rattle.sqlite.specs.Effect.{IsDatabase}
use Rattle.sqlite.specs.State.{HasCleanDisk, KeepsCommit, Survives}
use Rattle.sqlite.specs.Held.{state}
use Rattle.vault_audit_model.specs.Tables.{vault_schema}
use Rattle.vault_store_model.specs.Edits.{Edits}
use Rattle.vault_store_edits.specs.Typed.{IsTypedRule}
use Rattle.vault_store_edits.proofs.RulesLemmas.{with_first}
use Rattle.vault_store_edits.proofs.rules.put_rules.Given as goal

-- the rules so far are put in, and are well spelled
abbrev pub invariant-loop-rule : goal.invariant-loop-rule
invariant-loop-rule g l =
    let old = state g.S.Store l.fn.tx.conn.now in
    let now = state g.S.Store l.tx.conn.now in
    (l.tx.conn.ghost_name ≡ l.fn.tx.conn.ghost_name) × (l.place ≡ l.rule-index) × Survives old now (λ _. ⊥)
    × (HasCleanDisk now → IsTrue l.fn.tx.conn.now.in_transaction → KeepsCommit old now × IsTrue l.tx.conn.now.in_transaction)
    × ((external : Bool) → HasCleanDisk now → IsTrue l.fn.tx.conn.now.in_transaction → IsTrue old.is_open → Edits external old now (with_first l.bucket l.rules l.rule-index))
    × ((external : Bool) → HasCleanDisk now → IsTrue l.fn.tx.conn.now.in_transaction → old.now.schema ≡ vault_schema external → IsDatabase old.now → IsDatabase now.now × (now.now.schema ≡ vault_schema external))
    × AllByRecursion IsTypedRule (take l.rule-index l.rules)
