use Rattle.std.proofs.Common.{[]}
use Rattle.sqlite.specs.Held.{state}
use Rattle.vault_store_create.specs.Listings.{first_meta}
use Rattle.vault_store_create.proofs.CreateLemmas.{moves_if}
use Rattle.vault_store_create.proofs.PutLemmas.{meta_refused}
use Rattle.vault_store_create.proofs.InsertLemmas.{meta_put}
use Rattle.vault_store_create.proofs.first_rows.put_meta.Goals as goal

pub returns-clause-made : goal.returns-clause-made
returns-clause-made g c clean inside =
    let old = state g.S.Store c.args.tx.now.conn.now in
    let new = state g.S.Store c.execute.new.self.conn.now in
    moves_if (first_meta c.args.external) [] old new _ _ c.execute.result (meta_put c.args.external old new) (rw c.first_meta.ensures at (c.execute.ensures.runs clean inside))

pub returns-clause-memory : goal.returns-clause-memory
returns-clause-memory g c well inside was =
    let old = state g.S.Store c.args.tx.now.conn.now in
    let new = state g.S.Store c.execute.new.self.conn.now in
    meta_refused c.args.external old new well c.execute.ensures.survives.limit was c.execute.result (rw c.first_meta.ensures at (c.execute.ensures.runs well.clean inside))
