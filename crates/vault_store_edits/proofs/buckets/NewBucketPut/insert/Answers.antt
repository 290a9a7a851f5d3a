use Rattle.sqlite.specs.Held.{state}
use Rattle.vault_store_edits.proofs.CastLemmas.{bound_number}
use Rattle.vault_audit_model.specs.Rows.{bucket_row}
use Rattle.vault_audit_model.specs.Tables.{buckets}
use Rattle.vault_audit_model.proofs.OutcomeLemmas.{kept_if_refused}
use Rattle.vault_audit_schema.specs.Texts.{insert_text}
use Rattle.vault_store_edits.specs.NewRows.{new_bucket}
use Rattle.vault_store_edits.proofs.PutLemmas.{ran_if}
use Rattle.vault_store_edits.proofs.buckets.NewBucketPut.insert.Goals as goal

pub returns-clause-ran : goal.returns-clause-ran
returns-clause-ran g c external clean inside =
    ran_if (insert_text buckets) (bucket_row (new_bucket c.args.self.now.name.now c.args.self.now.dept.now)) (state g.S.Store c.args.tx.now.conn.now) (state g.S.Store c.execute.new.self.conn.now) c.execute.result
    (rw (c.params-to_sql.ensures, c.as_str.ensures.text, c.params-to_sql-2.ensures, c.as_str-2.ensures.text, c.params-to_sql-3.ensures, c.default_mode.ensures, c.params-to_sql-4.ensures, bound_number c.default_days.result, c.default_days.ensures, c.params-to_sql-5.ensures, bound_number c.default_years.result, c.default_years.ensures) at (c.execute.ensures.runs clean inside))

pub returns-clause-kept : goal.returns-clause-kept
returns-clause-kept g c clean inside = kept_if_refused _ _ (state g.S.Store c.args.tx.now.conn.now) (state g.S.Store c.execute.new.self.conn.now) c.execute.result (c.execute.ensures.runs clean inside)
