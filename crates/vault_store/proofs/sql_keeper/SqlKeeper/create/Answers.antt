use Rattle.std.proofs.Common.{sym, subst}
use Rattle.sqlite.specs.Held.{state}
use Rattle.sqlite.specs.State.{HasCleanDisk, Survives}
use Rattle.vault_core_model.specs.Vault.{opening_of}
use Rattle.vault_audit_laws.proofs.Uniqueness.{same_vault}
use Rattle.vault_audit_model.specs.Spells.{AreSound}
use Rattle.vault_store_apply.specs.Left.{IsFoundIn, LeavesAlone}
use Rattle.vault_store.proofs.CreateLemmas.{opening_found, leaves_opening}
use Rattle.vault_store.proofs.sql_keeper.SqlKeeper.create.Goals as goal

pub over-requires-clause-alone : goal.over-requires-clause-alone
over-requires-clause-alone g c clean v is =
    let made = c.in-Ok.ensures.opening clean in
    subst (LeavesAlone (state g.S.Store c.fill.new.conn)) (sym (same_vault _ _ (opening_of c.args.external) is.spells made.spells)) (λ trees may. opening_found c.args.external trees (c.in-Ok.ensures.alone clean trees may))

pub returns-in-Ok-clause-sound : goal.returns-in-Ok-clause-sound
returns-in-Ok-clause-sound g c clean =
    subst (λ h. HasCleanDisk (state g.S.Store h) → AreSound (state g.S.Store h).now (opening_of c.args.external)) (sym c.over.ensures.same) c.in-Ok.ensures.opening clean

pub returns-in-Ok-clause-opening : goal.returns-in-Ok-clause-opening
returns-in-Ok-clause-opening g c clean =
    let before = subst (λ h. HasCleanDisk (state g.S.Store h)) c.over.ensures.same clean in
    let kept = c.over.ensures.keeps before in
    let made = c.in-Ok.ensures.opening before in
    same_vault _ _ (opening_of c.args.external) kept.spells made.spells

pub returns-in-Ok-clause-alone : goal.returns-in-Ok-clause-alone
returns-in-Ok-clause-alone g c =
    subst (λ h. HasCleanDisk (state g.S.Store h) → LeavesAlone (state g.S.Store h) (opening_of c.args.external)) (sym c.over.ensures.same)
    (λ clean trees may. opening_found c.args.external trees (c.in-Ok.ensures.alone clean trees may))

pub returns-in-Ok-clause-crash : goal.returns-in-Ok-clause-crash
returns-in-Ok-clause-crash g c =
    let old = state g.S.Store c.args.conn in
    subst (λ h. Survives old (state g.S.Store h) (IsFoundIn (opening_of c.args.external))) (sym c.over.ensures.same) (leaves_opening c.args.external old (state g.S.Store c.fill.new.conn) c.fill.ensures.crash)

pub returns-in-Err-clause-harmless : goal.returns-in-Err-clause-harmless
returns-in-Err-clause-harmless g c = leaves_opening c.args.external (state g.S.Store c.args.conn) (state g.S.Store c.fill.new.conn) c.fill.ensures.crash

pub returns-in-Err-clause-tables : goal.returns-in-Err-clause-tables
returns-in-Err-clause-tables g c outside clean was_open is_open = c.in-Err.ensures.nothing clean is_open
