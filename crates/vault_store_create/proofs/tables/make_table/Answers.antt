use Rattle.std.proofs.Common.{[]}
use Rattle.sqlite.specs.Held.{state}
use Rattle.vault_store_create.specs.Create.{HasBefore, HasOnce}
use Rattle.vault_store_create.proofs.RefusedLemmas.{table_refused}
use Rattle.vault_store_create.proofs.CreateLemmas.{moves_if, table_made}
use Rattle.vault_store_create.proofs.tables.make_table.Goals as goal

pub returns-clause-made : goal.returns-clause-made
returns-clause-made g c clean inside =
    let old = state g.S.Store c.args.tx.now.conn.now in
    let new = state g.S.Store c.execute.new.self.conn.now in
    let t = c.args.table in
    let text = c.creation.result.now in
    moves_if text [] old new (HasBefore c.args.external t) (HasOnce c.args.external t) c.execute.result (table_made c.args.external t text c.creation.ensures old new) (c.execute.ensures.runs clean inside)

pub returns-clause-memory : goal.returns-clause-memory
returns-clause-memory g c well inside was =
    let old = state g.S.Store c.args.tx.now.conn.now in
    let new = state g.S.Store c.execute.new.self.conn.now in
    let text = c.creation.result.now in
    table_refused c.args.external c.args.table text c.creation.ensures old new well was c.execute.result (c.execute.ensures.runs well.clean inside)
