use Rattle.std.proofs.Common.{refl}
use Rattle.sqlite.specs.Held.{state}
use Rattle.sqlite.proofs.StateLemmas.{survives_weaker}
use Rattle.vault_core_model.specs.declared.change.Change.TheVariants as change
use Rattle.vault_store_apply.specs.Applies.{Changes}
use Rattle.vault_store_apply.proofs.ApplyLemmas.{on_ok_then}
use Rattle.vault_store_apply.proofs.records.close_caller.Goals as goal

pub returns-clause-done : goal.returns-clause-done
returns-clause-done g c clean =
    let old = state g.S.Store c.args.conn.now in
    let new = state g.S.Store c.commit_part.new.conn in
    on_ok_then (Changes old new c.args.at (change.CloseCaller c.args.name.now)) c.commit_part.result (c.commit_part.ensures.done clean)
    (λ stated v was later allowed. stated.1 v (change.CloseCaller c.args.name.now) stated.0 tt was later allowed (λ is_open xs u. refl))

pub returns-clause-crash : goal.returns-clause-crash
returns-clause-crash g c =
    let old = state g.S.Store c.args.conn.now in
    let new = state g.S.Store c.commit_part.new.conn in
    survives_weaker old new _ _ (λ late trees stated v was later allowed. stated.1 v (change.CloseCaller c.args.name.now) stated.0 tt was later allowed (λ is_open xs u. refl)) c.commit_part.ensures.crash
