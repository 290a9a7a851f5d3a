use Rattle.std.proofs.Common.{sym, subst}
use Rattle.sqlite.specs.Held.{state}
use Rattle.sqlite.specs.State.{HasCleanDisk}
use Rattle.vault_audit_model.specs.Spells.{AreSound}
use Rattle.vault_store_apply.specs.Left.{LeavesAlone}
use Rattle.vault_store.specs.Kept.{kept_vault}
use Rattle.vault_store.proofs.sql_keeper.SqlKeeper.open.Goals as goal

pub returns-clause-alone : goal.returns-clause-alone
returns-clause-alone g c clean =
    let v = kept_vault g.S.Store c.over.result.opening.at.items c.over.result.opening.known c.over.result.made.items in
    let before = subst (λ h. HasCleanDisk (state g.S.Store h)) c.over.ensures.same clean in
    subst (λ h. LeavesAlone (state g.S.Store h) v) (sym c.over.ensures.same) (c.in-Ok.ensures.alone before v (c.over.ensures.keeps before))

pub returns-clause-sound : goal.returns-clause-sound
returns-clause-sound g c clean =
    let v = kept_vault g.S.Store c.over.result.opening.at.items c.over.result.opening.known c.over.result.made.items in
    let before = subst (λ h. HasCleanDisk (state g.S.Store h)) c.over.ensures.same clean in
    subst (λ h. AreSound (state g.S.Store h).now v) (sym c.over.ensures.same) (c.over.ensures.keeps before)
