use Rattle.sqlite.specs.Held.{state}
use Rattle.vault_store_edits.proofs.CastLemmas.{bound_text, bound_flag}
use Rattle.vault_audit_model.specs.Rows.{caller_row}
use Rattle.vault_audit_model.specs.Tables.{callers}
use Rattle.vault_audit_model.proofs.OutcomeLemmas.{kept_if_refused}
use Rattle.vault_audit_schema.specs.Texts.{insert_text}
use Rattle.vault_store_edits.proofs.PutLemmas.{ran_if}
use Rattle.vault_store_edits.proofs.callers.CallerPut.insert.Goals as goal

pub returns-clause-ran : goal.returns-clause-ran
returns-clause-ran g c external clean inside =
    ran_if (insert_text callers) (caller_row c.args.self.now) (state g.S.Store c.args.tx.now.conn.now) (state g.S.Store c.execute.new.self.conn.now) c.execute.result
    (rw (c.params-to_sql.ensures, c.as_str.ensures.text, c.params-to_sql-2.ensures, c.dept_text.ensures.value, bound_text c.args.self.now.dept, c.params-to_sql-3.ensures, c.rights_number.ensures, c.params-to_sql-4.ensures, bound_flag c.args.self.now.closed) at (c.execute.ensures.runs clean inside))

pub returns-clause-kept : goal.returns-clause-kept
returns-clause-kept g c clean inside = kept_if_refused _ _ (state g.S.Store c.args.tx.now.conn.now) (state g.S.Store c.execute.new.self.conn.now) c.execute.result (c.execute.ensures.runs clean inside)
