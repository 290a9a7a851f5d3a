use Rattle.std.proofs.Common.{sym, subst}
use Rattle.sqlite.specs.Held.{state}
use Rattle.sqlite.proofs.StateLemmas.{survives_then}
use Rattle.vault_audit_model.specs.Spells.{AreSoundAs}
use Rattle.vault_store.proofs.EditionLemmas.{sound_by_edition}
use Rattle.vault_store.proofs.MigrateLemmas.{never_failed, worked}
use Rattle.vault_store.proofs.migrate.look_at_copy.Goals as goal

pub returns-in-Ok-clause-sound : goal.returns-in-Ok-clause-sound
returns-in-Ok-clause-sound g c clean =
    let it = c.in-Ok.ensures.sound clean in
    let db = (state g.S.Store c.audit.new.conn).now in
    (it.0, sound_by_edition c.args.external db it.0 (subst (λ n. AreSoundAs n db it.0) c.of-schema_version.ensures it.1))

pub returns-in-Err-clause-crash : goal.returns-in-Err-clause-crash
returns-in-Err-clause-crash g c =
    survives_then (state g.S.Store c.args.new.now) (state g.S.Store c.audit.new.conn) (state g.S.Store c.end_transaction.new.conn) _ _ (λ _. ⊥) (λ _ trees none. none) (λ _ trees none. none) c.audit.ensures.look.crash c.end_transaction.ensures.crash

pub returns-in-Err-clause-healthy : goal.returns-in-Err-clause-healthy
returns-in-Err-clause-healthy g c v sound well =
    let looked = state g.S.Store c.audit.new.conn in
    let before = worked looked (state g.S.Store c.end_transaction.new.conn) c.end_transaction.ensures.crash c.end_transaction.ensures.was_open well in
    let did = c.in-Err.ensures in
    never_failed _ _ did.faults c.fault_of_copy.ensures.memory (did.healthy before)
    (λ t damaged. did.damaged before.clean t damaged v (subst (λ db. AreSoundAs c.of-schema_version.result db v) (sym (did.kept before.clean (t, damaged)))
    (subst (λ n. AreSoundAs n (state g.S.Store c.args.new.now).now v) (sym c.of-schema_version.ensures) sound)))
