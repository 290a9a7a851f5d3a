use Rattle.std.proofs.Common.{List, IfOk, map, refl, subst, arith}
use Rattle.sqlite_value.specs.Order.{Row}
use Rattle.sqlite.specs.Held.{state}
use Rattle.sqlite.specs.State.{HasCleanDisk}
use Rattle.vault_core_model.specs.Vault.{Vault}
use Rattle.vault_audit_model.specs.Spells.{AreSoundAs}
use Rattle.vault_audit_rows.specs.Records.{AreRecords}
use Rattle.vault_audit_rows.proofs.RecordLemmas.{records_if_ok}
use Rattle.vault_audit_records.proofs.DamageLemmas.{refused_if_ok}
use Rattle.vault_audit.proofs.first_pass.record.check_table.Goals as goal

pub check_rows-requires : goal.check_rows-requires
check_rows-requires g c clean =
    rw c.select.ensures (g.met.R.Record.shows_all c.args.schema_version (state g.S.Store c.args.conn.now).now.schema c.requires.has (c.requires.begin clean)).scans.plain

pub returns-clause-reported : goal.returns-clause-reported
returns-clause-reported g c clean =
    let m = g.R.Record in
    let old = state g.S.Store c.args.conn.now in
    let new = state g.S.Store c.check_rows.new.conn in
    let early : HasCleanDisk old = omega (arith, c.check_rows.ensures.look.crash.clean) in
    let it = g.met.R.Record.shows_all c.args.schema_version old.now.schema c.requires.has (c.requires.begin early) in
    subst (λ (rows : List Row). IfOk c.check_rows.result (AreRecords m.as_row (m.is_in_limits c.args.schema_version) rows)) (it.alike (new.now.trees m.tree))
    (records_if_ok m.as_row (m.is_in_limits c.args.schema_version) it.scans old new refl g.met.R.Record.bare c.check_rows.result (c.check_rows.ensures.look.same clean) (rw c.select.ensures at (c.check_rows.ensures.checked clean)))

pub returns-clause-damaged : goal.returns-clause-damaged
returns-clause-damaged g c clean =
    let m = g.R.Record in
    let db = (state g.S.Store c.check_rows.new.conn).now in
    refused_if_ok (AreRecords m.as_row (m.is_in_limits c.args.schema_version) (map (m.columns c.args.schema_version) (db.trees m.tree))) ((v : Vault) → ¬ AreSoundAs c.args.schema_version db v)
    (λ none v. g.met.R.Record.unsound c.args.schema_version db v c.requires.has none) c.check_rows.result (returns-clause-reported g c clean)

pub returns-clause-err : goal.returns-clause-err
returns-clause-err g c well =
    c.check_rows.ensures.err well (λ clean. rw c.select.ensures (g.met.R.Record.shows_all c.args.schema_version (state g.S.Store c.args.conn.now).now.schema c.requires.has (c.requires.begin clean)).asks)
