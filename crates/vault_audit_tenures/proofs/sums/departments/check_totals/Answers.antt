use Rattle.std.proofs.Common.{[], IfOk, refl, sym, subst, arith}
use Rattle.sqlite.specs.Held.{state}
use Rattle.sqlite.specs.State.{HasCleanDisk}
use Rattle.sqlite.specs.Given.{IsPlain}
use Rattle.sqlite.specs.Listing.{understood}
use Rattle.vault_audit_model.specs.Rows.{department_row}
use Rattle.vault_audit_schema.specs.Selects.{departments_select}
use Rattle.vault_audit_rows.specs.Health.{Asks}
use Rattle.vault_audit_rows.specs.Records.{AreRecords}
use Rattle.vault_audit_rows.proofs.RecordLemmas.{records_if_ok}
use Rattle.vault_audit_tenures.proofs.SumTextLemmas.{departments_scan, departments_asks, departments_shows}
use Rattle.vault_audit_tenures.specs.DepartmentSums.{HasTotal}
use Rattle.vault_audit_tenures.proofs.sums.departments.check_totals.Goals as goal

pub check_rows-requires : goal.check_rows-requires
check_rows-requires g c clean = rw c.departments_query.ensures (subst (λ s. IsPlain (understood s (departments_select c.args.schema_version []))) (sym (c.requires clean)) (departments_scan c.args.schema_version).plain)

pub returns-clause-reported : goal.returns-clause-reported
returns-clause-reported g c clean =
    let early : HasCleanDisk (state g.S.Store c.args.conn.now) = omega (arith, c.check_rows.ensures.look.crash.clean) in
    subst (λ rows. IfOk c.check_rows.result (AreRecords department_row (HasTotal c.args.check.now.totals) rows)) (departments_shows c.args.schema_version _)
    (records_if_ok department_row (HasTotal c.args.check.now.totals) (departments_scan c.args.schema_version) (state g.S.Store c.args.conn.now) (state g.S.Store c.check_rows.new.conn) (c.requires early) (λ trees. refl) (c.check_rows.result) (c.check_rows.ensures.look.same clean) (rw c.departments_query.ensures at (c.check_rows.ensures.checked clean)))

pub returns-clause-err : goal.returns-clause-err
returns-clause-err g c well = c.check_rows.ensures.err well (λ clean. rw c.departments_query.ensures (subst (λ s. Asks s (departments_select c.args.schema_version [])) (sym (c.requires clean)) (departments_asks c.args.schema_version)))
