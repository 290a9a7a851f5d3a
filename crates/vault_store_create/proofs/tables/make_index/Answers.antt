use Rattle.std.proofs.Common.{[]}
use Rattle.sqlite.specs.Held.{state}
use Rattle.vault_base.specs.declared.refusal.Table.TheVariants as table
use Rattle.vault_store_create.specs.Create.{HasFirst, HasBefore}
use Rattle.vault_store_create.proofs.RefusedLemmas.{index_refused}
use Rattle.vault_store_create.proofs.CreateLemmas.{moves_if, index_made}
use Rattle.vault_store_create.proofs.tables.make_index.Goals as goal

pub returns-clause-made : goal.returns-clause-made
returns-clause-made g c clean inside =
    let old = state g.S.Store c.args.tx.now.conn.now in
    let new = state g.S.Store c.execute.new.self.conn.now in
    let text = c.index_creation.result.now in
    moves_if text [] old new (HasFirst c.args.external 11) (HasBefore c.args.external table.External) c.execute.result (index_made c.args.external text (c.index_creation.ensures c.args.external) old new) (c.execute.ensures.runs clean inside)

pub returns-clause-memory : goal.returns-clause-memory
returns-clause-memory g c well inside was =
    let old = state g.S.Store c.args.tx.now.conn.now in
    let new = state g.S.Store c.execute.new.self.conn.now in
    let text = c.index_creation.result.now in
    index_refused c.args.external text (c.index_creation.ensures c.args.external) old new well was c.execute.result (c.execute.ensures.runs well.clean inside)
