use Rattle.std.proofs.Common.{sym, subst}
use Rattle.sqlite.specs.Held.{state}
use Rattle.sqlite.specs.State.{HasCleanDisk, Survives}
use Rattle.vault_audit_laws.proofs.Uniqueness.{same_vault}
use Rattle.vault_audit_model.specs.Spells.{AreSound}
use Rattle.vault_store_apply.specs.Left.{LeavesAlone}
use Rattle.vault_store_create.specs.Copied.{registering}
use Rattle.vault_store.specs.Kept.{kept_vault}
use Rattle.vault_store.specs.Migrated.{IsMigrated}
use Rattle.vault_store.proofs.sql_keeper.SqlKeeper.migrate.Goals as goal

pub returns-in-Ok-clause-vault : goal.returns-in-Ok-clause-vault
returns-in-Ok-clause-vault g c clean after v is =
    let before = subst (λ h. HasCleanDisk (state g.S.Store h)) c.over.ensures.same after in
    let kept = c.over.ensures.keeps before in
    let made = c.in-Ok.ensures.copied clean before v is in
    same_vault _ _ (registering c.args.external v) kept.spells made.spells

pub returns-in-Ok-clause-alone : goal.returns-in-Ok-clause-alone
returns-in-Ok-clause-alone g c clean =
    let v = kept_vault g.S.Store c.over.result.opening.at.items c.over.result.opening.known c.over.result.made.items in
    let before = subst (λ h. HasCleanDisk (state g.S.Store h)) c.over.ensures.same clean in
    subst (λ h. LeavesAlone (state g.S.Store h) v) (sym c.over.ensures.same) (c.in-Ok.ensures.alone before v (c.over.ensures.keeps before))

pub returns-in-Ok-clause-crash : goal.returns-in-Ok-clause-crash
returns-in-Ok-clause-crash g c =
    subst (λ h. Survives (state g.S.Store c.args.new) (state g.S.Store h) (λ trees. HasCleanDisk (state g.O.Store c.copy_vault.new.old) → IsMigrated c.args.schema_version c.args.external (state g.O.Store c.args.old.now).now trees)) (sym c.over.ensures.same) c.copy_vault.ensures.crash

pub returns-in-Ok-clause-sound : goal.returns-in-Ok-clause-sound
returns-in-Ok-clause-sound g c clean =
    let v = kept_vault g.S.Store c.over.result.opening.at.items c.over.result.opening.known c.over.result.made.items in
    let before = subst (λ h. HasCleanDisk (state g.S.Store h)) c.over.ensures.same clean in
    subst (λ h. AreSound (state g.S.Store h).now v) (sym c.over.ensures.same) (c.over.ensures.keeps before)
