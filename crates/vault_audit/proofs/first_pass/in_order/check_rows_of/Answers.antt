use Rattle.std.proofs.Common.{IfOk, sym, subst, arith}
use Rattle.sqlite.specs.State.{HasCleanDisk}
use Rattle.sqlite.specs.Held.{state}
use Rattle.vault_audit.specs.InOrder.{AreRowsRight}
use Rattle.vault_audit.proofs.OrderLemmas.{entries_read_so, entries_damaged}
use Rattle.vault_audit.proofs.first_pass.in_order.check_rows_of.Goals as goal

pub returns-in-Entries-clause-reported : goal.returns-in-Entries-clause-reported
returns-in-Entries-clause-reported g c clean =
    let early : HasCleanDisk (state g.S.Store c.args.conn.now) = omega (arith, c.check_entries.ensures.look.crash.clean) in
    subst (λ t. IfOk c.check_entries.result (AreRowsRight c.args.schema_version (state g.S.Store c.check_entries.new.conn).now t)) (sym c.in-Entries.is)
    (entries_read_so c.args.schema_version (state g.S.Store c.args.conn.now) (state g.S.Store c.check_entries.new.conn) c.args.meta.now (c.requires.meta early) c.check_entries.result (c.check_entries.ensures.look.same clean) (c.check_entries.ensures.reported clean))

pub returns-in-Entries-clause-damaged : goal.returns-in-Entries-clause-damaged
returns-in-Entries-clause-damaged g c clean =
    let early : HasCleanDisk (state g.S.Store c.args.conn.now) = omega (arith, c.check_entries.ensures.look.crash.clean) in
    entries_damaged c.args.schema_version (state g.S.Store c.args.conn.now) (state g.S.Store c.check_entries.new.conn) c.args.meta.now (c.requires.meta early) c.check_entries.result (c.check_entries.ensures.look.same clean) (c.check_entries.ensures.damaged clean)
