use Rattle.std.proofs.Common.{IsTrue, sym, subst, ◌∙◌, arith}
use Rattle.sqlite.specs.Held.{state}
use Rattle.sqlite.specs.State.{HasCleanDisk}
use Rattle.vault_audit_model.specs.Spells.{AreSound}
use Rattle.vault_store_create.specs.Copied.{registering}
use Rattle.vault_store.proofs.MigrateLemmas.{copy_survives, never_copied, survives_more}
use Rattle.vault_store.proofs.TableLemmas.{leaves_alone, same_tables, same_undone}
use Rattle.vault_store.proofs.migrate.copy_vault.Goals as goal

pub returns-in-Err-clause-tables : goal.returns-in-Err-clause-tables
returns-in-Err-clause-tables g c clean =
    let h = c.args.new.now in
    let k = c.take_copy.new.new in
    same_tables g.S.Store h k (g.met.S.Store.settled h.store) (g.met.S.Store.stays k.store) clean c.take_copy.ensures.crash (c.connection_is_at_rest.ensures c.requires.outside) (c.connection_is_at_rest-in-Err.ensures (c.in-Err.ensures.outside clean))

pub returns-in-Err-clause-crash : goal.returns-in-Err-clause-crash
returns-in-Err-clause-crash g c = never_copied (state g.S.Store c.args.new.now) (state g.S.Store c.take_copy.new.new) _ c.take_copy.ensures.crash

pub returns-in-Err-look_at_copy-clause-tables : goal.returns-in-Err-look_at_copy-clause-tables
returns-in-Err-look_at_copy-clause-tables g c clean =
    let h = c.args.new.now in
    let k = c.look_at_copy.new.new in
    let all = survives_more (state g.S.Store h) (state g.S.Store c.take_copy.new.new) (state g.S.Store k) c.take_copy.ensures.crash c.look_at_copy.ensures.crash in
    same_tables g.S.Store h k (g.met.S.Store.settled h.store) (g.met.S.Store.stays k.store) clean all (c.connection_is_at_rest.ensures c.requires.outside) (c.connection_is_at_rest-in-Err-look_at_copy.ensures (c.in-Err-look_at_copy.ensures.outside clean))

pub returns-in-Err-commit-clause-tables : goal.returns-in-Err-commit-clause-tables
returns-in-Err-commit-clause-tables g c clean =
    let h = c.args.new.now in
    let k = c.look_at_copy.new.new in
    let early : HasCleanDisk (state g.S.Store k) = omega (arith, clean, c.commit.ensures.crash.clean) in
    let all = survives_more (state g.S.Store h) (state g.S.Store c.take_copy.new.new) (state g.S.Store k) c.take_copy.ensures.crash c.look_at_copy.ensures.crash in
    same_undone g.S.Store h k c.commit.new.conn (g.met.S.Store.settled h.store) (g.met.S.Store.stays k.store) early all (c.connection_is_at_rest.ensures c.requires.outside) c.tables_obey_their_schema.ensures (c.in-Err-commit.ensures.undone clean)

pub returns-in-Err-commit-clause-crash : goal.returns-in-Err-commit-clause-crash
returns-in-Err-commit-clause-crash g c =
    copy_survives (state g.S.Store c.args.new.now) (state g.S.Store c.take_copy.new.new) (state g.S.Store c.look_at_copy.new.new) (state g.S.Store c.commit.new.conn) c.args.schema_version c.args.external (state g.O.Store c.args.old.now).now (HasCleanDisk (state g.O.Store c.take_copy.new.old))
    c.take_copy.ensures.crash c.look_at_copy.ensures.crash c.commit.ensures.crash (λ clean. (c.in-Ok-look_at_copy.ensures.same clean).0.now_is) c.in-Ok.ensures.spelled c.in-Ok.ensures.copied

pub returns-clause-crash : goal.returns-clause-crash
returns-clause-crash g c =
    copy_survives (state g.S.Store c.args.new.now) (state g.S.Store c.take_copy.new.new) (state g.S.Store c.look_at_copy.new.new) (state g.S.Store c.commit.new.conn) c.args.schema_version c.args.external (state g.O.Store c.args.old.now).now (HasCleanDisk (state g.O.Store c.take_copy.new.old))
    c.take_copy.ensures.crash c.look_at_copy.ensures.crash c.commit.ensures.crash (λ clean. (c.in-Ok-look_at_copy.ensures.same clean).0.now_is) c.in-Ok.ensures.spelled c.in-Ok.ensures.copied

pub returns-clause-copied : goal.returns-clause-copied
returns-clause-copied g c clean after v is =
    let looked : HasCleanDisk (state g.S.Store c.look_at_copy.new.new) = omega (arith, after, c.commit.ensures.crash.clean) in
    let taken : HasCleanDisk (state g.S.Store c.take_copy.new.new) = omega (arith, looked, c.look_at_copy.ensures.crash.clean) in
    let same = (c.in-Ok-commit.ensures.committed after).1 ∙ (c.in-Ok-look_at_copy.ensures.same looked).0.now_is in
    subst (λ db. AreSound db (registering c.args.external v)) (sym same) (c.in-Ok.ensures.copied clean taken v is).0

pub returns-clause-sound : goal.returns-clause-sound
returns-clause-sound g c clean =
    let looked : HasCleanDisk (state g.S.Store c.look_at_copy.new.new) = omega (arith, clean, c.commit.ensures.crash.clean) in
    let done = c.in-Ok-commit.ensures.committed clean in
    let it = c.in-Ok-look_at_copy.ensures.sound looked in
    record { is_open = done.0; sound = (it.0, subst (λ db. AreSound db it.0) (sym done.1) it.1); committed = done.2 }

pub returns-clause-alone : goal.returns-clause-alone
returns-clause-alone g c clean v sound =
    let h = c.commit.new.conn in
    leaves_alone g.S.Store h (g.met.S.Store.settled h.store) (c.in-Ok-commit.ensures.committed clean).0 (c.connection_is_at_rest-2.ensures c.in-Ok-commit.ensures.settled) v sound

pub returns-in-Err-look_at_copy-clause-unsound : goal.returns-in-Err-look_at_copy-clause-unsound
returns-in-Err-look_at_copy-clause-unsound g c none well same = let it = c.in-Ok.ensures.spelled well.clean in none it.0 it.1

pub returns-in-Err-commit-clause-unsound : goal.returns-in-Err-commit-clause-unsound
returns-in-Err-commit-clause-unsound g c none well same = let it = c.in-Ok.ensures.spelled well.clean in none it.0 it.1

pub returns-in-Err-look_at_copy-clause-refused : goal.returns-in-Err-look_at_copy-clause-refused
returns-in-Err-look_at_copy-clause-refused g c well_old well stated =
    let taken : HasCleanDisk (state g.S.Store c.take_copy.new.new) = omega (arith, well.clean, c.look_at_copy.ensures.crash.clean) in
    let it = c.in-Ok.ensures.spelled well_old.clean in
    let copied = c.in-Ok.ensures.copied well_old.clean taken it.0 it.1 in
    absurd (c.in-Err-look_at_copy.ensures.healthy (registering c.args.external it.0) copied.0 well stated)

pub returns-in-Err-commit-clause-refused : goal.returns-in-Err-commit-clause-refused
returns-in-Err-commit-clause-refused g c well_old well stated =
    let looked : HasCleanDisk (state g.S.Store c.look_at_copy.new.new) = omega (arith, well.clean, c.commit.ensures.crash.clean) in
    let taken : HasCleanDisk (state g.S.Store c.take_copy.new.new) = omega (arith, looked, c.look_at_copy.ensures.crash.clean) in
    let inside = c.in-Ok.ensures.inside well_old.clean taken in
    let mode = (c.in-Ok-look_at_copy.ensures.same looked).0.mode in
    absurd (c.in-Err-commit.ensures.healthy (subst IsTrue (sym mode) inside) well stated)
