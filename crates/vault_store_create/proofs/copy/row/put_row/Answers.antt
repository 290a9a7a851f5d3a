use Rattle.std.proofs.Common.{◌≡◌, map, sym, ap, ◌∙◌}
use Rattle.sqlite_trees.proofs.ListLemmas.{map-map}
use Rattle.sqlite_value.specs.Value.{owned}
use Rattle.sqlite.specs.Held.{state}
use Rattle.sqlite.specs.Values.{bound, bound_value}
use Rattle.vault_store_create.specs.Copied.{PutsRow}
use Rattle.vault_store_create.specs.RowsOf.{put_of}
use Rattle.vault_store_create.proofs.PartLemmas.{steps_if}
use Rattle.vault_store_create.proofs.RowLemmas.{puts_row}
use Rattle.vault_store_create.proofs.RowRefusedLemmas.{row_refused}
use Rattle.vault_store_create.proofs.copy.row.put_row.Goals as goal

pub returns-clause-put : goal.returns-clause-put
returns-clause-put g c clean inside =
    let old = state g.S.Store c.args.tx.now.conn.now in
    let new = state g.S.Store c.execute.new.self.conn.now in
    let given : bound c.deref.result.now ≡ map bound_value (put_of c.args.table c.args.external c.args.row.now) = sym (map-map bound_value (λ v. owned v) c.deref.result.now) ∙ ap (map bound_value) (ap (map (λ v. owned v)) c.deref.ensures.value ∙ c.in_ok-values.ensures.values ∙ c.width_put.ensures.put) in
    steps_if _ _ old new c.execute.result (PutsRow c.args.external c.args.table c.args.row.now) (λ count. puts_row c.args.external old new c.args.table c.requires c.args.row.now (bound c.deref.result.now) given count) (rw c.putting.ensures at (c.execute.ensures.runs clean inside))

pub returns-clause-refused : goal.returns-clause-refused
returns-clause-refused g c well inside has stated =
    let old = state g.S.Store c.args.tx.now.conn.now in
    let new = state g.S.Store c.execute.new.self.conn.now in
    let given : bound c.deref.result.now ≡ map bound_value (put_of c.args.table c.args.external c.args.row.now) = sym (map-map bound_value (λ v. owned v) c.deref.result.now) ∙ ap (map bound_value) (ap (map (λ v. owned v)) c.deref.ensures.value ∙ c.in_ok-values.ensures.values ∙ c.width_put.ensures.put) in
    row_refused c.args.external c.args.table c.requires c.args.row.now (bound c.deref.result.now) given stated old new well c.execute.ensures.survives.limit has c.execute.result (rw c.putting.ensures at (c.execute.ensures.runs well.clean inside))
