use Rattle.std.proofs.Common.{IfOk, subst}
use Rattle.sqlite.specs.Held.{state}
use Rattle.vault_audit_model.specs.Limits.{IsTenureRow}
use Rattle.vault_audit_model.specs.Rows.{tenure_row}
use Rattle.vault_audit_rows.specs.Records.{AreRecords}
use Rattle.vault_audit_tenures.proofs.TableLemmas.{has_table, rows_in_are}
use Rattle.vault_audit.proofs.first_pass.tenures.check_tenures.Goals as goal

pub check_table-requires-clause-has : goal.check_table-requires-clause-has
check_table-requires-clause-has g c = has_table c.args.schema_version c.in-Third.is

pub returns-in-Third-clause-reported : goal.returns-in-Third-clause-reported
returns-in-Third-clause-reported g c clean =
    subst (λ rows. IfOk c.check_table.result (AreRecords tenure_row IsTenureRow rows)) (rows_in_are c.args.schema_version (has_table c.args.schema_version c.in-Third.is) (state g.S.Store c.check_table.new.conn).now) (c.check_table.ensures.reported clean)
