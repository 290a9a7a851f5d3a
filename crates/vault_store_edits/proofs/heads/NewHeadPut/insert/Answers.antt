use Rattle.sqlite.specs.Held.{state}
use Rattle.std.proofs.Common.{FitsSigned, w64, rules, to_z-of_z}
use Rattle.vault_audit_model.specs.Rows.{head_row}
use Rattle.vault_audit_model.specs.Tables.{heads}
use Rattle.vault_audit_model.proofs.OutcomeLemmas.{kept_if_refused}
use Rattle.vault_audit_schema.specs.Texts.{insert_text}
use Rattle.vault_store_edits.proofs.PutLemmas.{ran_if}
use Rattle.vault_store_edits.proofs.heads.NewHeadPut.insert.Goals as goal

pub returns-clause-ran : goal.returns-clause-ran
returns-clause-ran g c external clean inside =
    let fits0 : FitsSigned w64 c.in_ok-count.count = search rules in
    ran_if (insert_text heads) (head_row (record { bucket = c.args.self.now.bucket.now; key = c.args.self.now.key.now; head = c.args.self.now.head.now })) (state g.S.Store c.args.tx.now.conn.now) (state g.S.Store c.execute.new.self.conn.now) c.execute.result
    (rw (c.params-to_sql.ensures, c.as_str.ensures.text, c.params-to_sql-2.ensures, c.as_str-2.ensures.text, c.params-to_sql-3.ensures, c.number.ensures.value, c.params-to_sql-4.ensures, to_z-of_z fits0, c.in_ok-count.ensures) at (c.execute.ensures.runs clean inside))

pub returns-clause-kept : goal.returns-clause-kept
returns-clause-kept g c clean inside = kept_if_refused _ _ (state g.S.Store c.args.tx.now.conn.now) (state g.S.Store c.execute.new.self.conn.now) c.execute.result (c.execute.ensures.runs clean inside)
