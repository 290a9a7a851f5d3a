use Rattle.std.proofs.Common.{◌≡◌, IsTrue, arith, ◌∙◌}
use Rattle.sqlite.specs.Effect.{IsDatabase}
use Rattle.sqlite.specs.State.{HasCleanDisk, KeepsCommit}
use Rattle.sqlite.specs.Held.{state}
use Rattle.vault_audit_model.specs.Tables.{vault_schema}
use Rattle.vault_store_model.specs.Edits.{Edits}
use Rattle.vault_audit_model.proofs.OutcomeLemmas.{on_ok_then}
use Rattle.vault_store_edits.proofs.TransactionLemmas.{ready_there, edits_there, kept_there, on_ok_given, on_err_all, on_err_given, on_err_here}
use Rattle.vault_store_edits.proofs.transaction.make_open.Goals as goal

pub returns-clause-edits : goal.returns-clause-edits
returns-clause-edits g c clean inside live =
    let old = state g.S.Store c.args.tx.now.conn.now in
    let mid = state g.S.Store c.connection_is_open.new.tx.conn.now in
    let new = state g.S.Store c.make.new.tx.conn.now in
    let early : HasCleanDisk mid = omega (arith, clean, c.make.ensures.survives.clean) in
    let same = c.in_ok-connection_is_open.ensures.open early in
    on_ok_given (λ external. old.now.schema ≡ vault_schema external) (λ external. Edits external old new (g.P.Part.edit c.args.part.now) × IsDatabase new.now) c.make.result same.0.was_open (λ external has.
    on_ok_then c.make.result (c.make.ensures.edits external clean (same.0.mode ∙ inside) (ready_there external old mid same live has)) (λ e. (edits_there external old mid new _ same e.0, e.1)))

pub returns-clause-kept : goal.returns-clause-kept
returns-clause-kept g c external clean inside live =
    let old = state g.S.Store c.args.tx.now.conn.now in
    let mid = state g.S.Store c.connection_is_open.new.tx.conn.now in
    let new = state g.S.Store c.make.new.tx.conn.now in
    let early : HasCleanDisk mid = omega (arith, clean, c.make.ensures.survives.clean) in
    let same = c.in_ok-connection_is_open.ensures.open early in
    on_err_given (KeepsCommit old new) c.make.result (λ has.
    on_err_all c.make.result (c.make.ensures.kept external clean (same.0.mode ∙ inside) (ready_there external old mid same live (has same.0.was_open))) (λ kept. kept_there old mid new same kept))

pub returns-in_err-connection_is_open-clause-kept : goal.returns-in_err-connection_is_open-clause-kept
returns-in_err-connection_is_open-clause-kept g c external clean inside live =
    let old = state g.S.Store c.args.tx.now.conn.now in
    let whole : (IsTrue old.is_open → old.now.schema ≡ vault_schema external) → KeepsCommit old (state g.S.Store c.connection_is_open.new.tx.conn.now) = λ has. c.in_err-connection_is_open.ensures.kept clean in
    on_err_here _ whole
