use Rattle.sqlite.specs.Held.{state}
use Rattle.sqlite.proofs.StateLemmas.{survives_weaker}
use Rattle.vault_store_apply.specs.Applies.{ChangesBy}
use Rattle.vault_store_apply.proofs.ApplyLemmas.{commits_change, may_commit_change, on_ok_all, on_ok_then}
use Rattle.vault_store_apply.proofs.commit.commit_part.Goals as goal

pub returns-clause-open : goal.returns-clause-open
returns-clause-open g c clean = on_ok_then _ c.transact.result (c.transact.ensures.open clean) (λ both. both.1)

pub returns-clause-done : goal.returns-clause-done
returns-clause-done g c clean =
    let old = state g.S.Store c.args.conn.now in
    let new = state g.S.Store c.transact.new.conn in
    let edit = g.P.Part.edit c.args.part.now in
    on_ok_all (g.P.Part.limits c.args.part.now × ChangesBy old new c.args.at edit) c.transact.result c.transact.ensures.limited (c.transact.ensures.open clean) (c.transact.ensures.done clean) (c.transact.ensures.alone clean)
    (λ limits was_open commits alone. (limits, commits_change old new c.args.at edit was_open.0 commits alone))

pub returns-clause-crash : goal.returns-clause-crash
returns-clause-crash g c =
    let old = state g.S.Store c.args.conn.now in
    let new = state g.S.Store c.transact.new.conn in
    let edit = g.P.Part.edit c.args.part.now in
    survives_weaker old new _ _ (λ late trees is. (is.0, may_commit_change old c.args.at edit trees is.1 is.2)) c.transact.ensures.crash
