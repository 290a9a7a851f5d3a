use Rattle.std.proofs.Common.{sym, subst, arith}
use Rattle.sqlite.specs.Held.{state}
use Rattle.sqlite.specs.State.{HasCleanDisk}
use Rattle.vault_audit_model.specs.Spells.{AreSoundAs}
use Rattle.vault_store.proofs.MigrateLemmas.{survives_more, tables_from, worked}
use Rattle.vault_store.proofs.TableLemmas.{same_tables}
use Rattle.vault_store.proofs.migrate.take_copy.Goals as goal

pub begin_copy-requires-clause-known : goal.begin_copy-requires-clause-known
begin_copy-requires-clause-known g c clean = (c.in-Ok.ensures.sound clean).1.spells.schema

pub returns-in-Ok-begin_copy-clause-copied : goal.returns-in-Ok-begin_copy-clause-copied
returns-in-Ok-begin_copy-clause-copied g c clean after v is =
    let mid = state g.O.Store c.look_as.new.conn in
    let early : HasCleanDisk mid = omega (arith, clean, c.begin_copy.ensures.look.crash.clean) in
    let here = subst (λ db. AreSoundAs c.args.schema_version db v) (sym (c.in-Ok.ensures.same early).0.now_is) is in
    c.in-Ok-begin_copy.ensures.copied clean after v here

pub returns-in-Err-begin_copy-clause-old_tables : goal.returns-in-Err-begin_copy-clause-old_tables
returns-in-Err-begin_copy-clause-old_tables g c clean =
    let h = c.look_as.new.conn in
    let k = c.settle.new.conn in
    let mid = state g.O.Store h in
    let copied = state g.O.Store c.begin_copy.new.old in
    let last = state g.O.Store k in
    let early : HasCleanDisk mid = omega (arith, clean, c.begin_copy.ensures.look.crash.clean, c.settle.ensures.crash.clean) in
    let all = survives_more mid copied last c.begin_copy.ensures.look.crash c.settle.ensures.crash in
    let stay = same_tables g.O.Store h k (g.met.O.Store.settled h.store) (g.met.O.Store.stays k.store) clean all c.in-Ok.ensures.rest (c.settle.ensures.rest clean) in
    tables_from (state g.O.Store c.args.old.now) mid last (c.in-Ok.ensures.same early) stay

pub returns-in-Err-begin_copy-clause-unsound : goal.returns-in-Err-begin_copy-clause-unsound
returns-in-Err-begin_copy-clause-unsound g c none well same =
    let early : HasCleanDisk (state g.O.Store c.look_as.new.conn) = omega (arith, well.clean, c.begin_copy.ensures.look.crash.clean, c.settle.ensures.crash.clean) in
    let it = c.in-Ok.ensures.sound early in
    none it.0 (subst (λ db. AreSoundAs c.args.schema_version db it.0) (c.in-Ok.ensures.same early).0.now_is it.1)

pub returns-in-Err-begin_copy-clause-refused : goal.returns-in-Err-begin_copy-clause-refused
returns-in-Err-begin_copy-clause-refused g c well_old well stated =
    let mid = state g.O.Store c.look_as.new.conn in
    let read = worked (state g.O.Store c.begin_copy.new.old) (state g.O.Store c.settle.new.conn) c.settle.ensures.crash c.settle.ensures.was_open well_old in
    let written = worked (state g.S.Store c.begin_copy.new.new) (state g.S.Store c.end_transaction.new.conn) c.end_transaction.ensures.crash c.end_transaction.ensures.was_open well in
    let early : HasCleanDisk mid = omega (arith, read.clean, c.begin_copy.ensures.look.crash.clean) in
    let it = c.in-Ok.ensures.sound early in
    let same = (c.in-Ok.ensures.same early).0.now_is in
    (it.0, subst (λ db. AreSoundAs c.args.schema_version db it.0) same it.1, c.in-Err-begin_copy.ensures.refused it.0 it.1 read written stated)
