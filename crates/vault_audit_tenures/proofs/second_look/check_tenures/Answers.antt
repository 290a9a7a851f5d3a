use Rattle.std.proofs.Common.{rules}
use Rattle.sqlite.specs.Held.{state}
use Rattle.vault_audit_rows.proofs.ScanLemmas.{still}
use Rattle.vault_audit_tenures.proofs.SoundLemmas.{if_older, if_later, damaged_if_ok}
use Rattle.vault_audit_tenures.proofs.second_look.check_tenures.Goals as goal
use Rattle.vault_audit_tenures.proofs.TableLemmas.{has_table}

pub returns-in-First-clause-reported : goal.returns-in-First-clause-reported
returns-in-First-clause-reported g c clean = if_older c.args.schema_version (state g.S.Store c.args.conn.now).now c.args.meta c.in-First.is

pub returns-in-First-clause-look : goal.returns-in-First-clause-look
returns-in-First-clause-look g c = record {
  same = λ clean. still (state g.S.Store c.args.conn.now) (c.requires.open clean);
  crash = search rules;
}

pub check_rows_of_tenures-requires-clause-table : goal.check_rows_of_tenures-requires-clause-table
check_rows_of_tenures-requires-clause-table g c = has_table c.args.schema_version c.in-Third.is

pub returns-in-Third-clause-reported : goal.returns-in-Third-clause-reported
returns-in-Third-clause-reported g c clean = if_later c.args.schema_version (state g.S.Store c.check_rows_of_tenures.new.conn).now c.args.meta c.check_rows_of_tenures.result (c.check_rows_of_tenures.ensures.reported clean)

pub returns-in-Third-clause-damaged : goal.returns-in-Third-clause-damaged
returns-in-Third-clause-damaged g c clean = damaged_if_ok c.args.schema_version (state g.S.Store c.check_rows_of_tenures.new.conn).now c.args.meta c.check_rows_of_tenures.result (returns-in-Third-clause-reported g c clean)
