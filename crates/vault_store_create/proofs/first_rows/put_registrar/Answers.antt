use Rattle.std.proofs.Common.{[]}
use Rattle.sqlite.specs.Held.{state}
use Rattle.vault_store_create.proofs.TextLemmas.{registrar_text}
use Rattle.vault_store_create.proofs.CreateLemmas.{moves_if}
use Rattle.vault_store_create.proofs.PutLemmas.{registrar_refused}
use Rattle.vault_store_create.proofs.InsertLemmas.{registrar_put}
use Rattle.vault_store_create.proofs.first_rows.put_registrar.Goals as goal

pub returns-clause-made : goal.returns-clause-made
returns-clause-made g c clean inside =
    let old = state g.S.Store c.args.tx.now.conn.now in
    let new = state g.S.Store c.execute.new.self.conn.now in
    moves_if registrar_text [] old new _ _ c.execute.result (registrar_put c.args.external old new) (c.execute.ensures.runs clean inside)

pub returns-clause-memory : goal.returns-clause-memory
returns-clause-memory g c well inside was =
    let old = state g.S.Store c.args.tx.now.conn.now in
    let new = state g.S.Store c.execute.new.self.conn.now in
    registrar_refused c.args.external old new well c.execute.ensures.survives.limit was c.execute.result (c.execute.ensures.runs well.clean inside)
