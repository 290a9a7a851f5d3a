use Rattle.sqlite.specs.Held.{state}
use Rattle.std.proofs.Common.{FitsSigned, w64, rules, to_z-of_z}
use Rattle.vault_store_edits.proofs.BoundLemmas.{bound_until, bound_hold}
use Rattle.vault_store_edits.proofs.TransactionLemmas.{on_ok_here}
use Rattle.vault_store_edits.specs.Typed.{IsTypedNote}
use Rattle.vault_audit_model.specs.Rows.{note_row}
use Rattle.vault_audit_model.specs.Tables.{intake}
use Rattle.vault_audit_model.proofs.OutcomeLemmas.{kept_if_refused}
use Rattle.vault_audit_schema.specs.Texts.{insert_text}
use Rattle.vault_store_edits.proofs.PutLemmas.{ran_if}
use Rattle.vault_store_edits.proofs.intake.NotePut.insert.Goals as goal

pub returns-clause-ran : goal.returns-clause-ran
returns-clause-ran g c external clean inside =
    let fits0 : FitsSigned w64 c.in_ok-size.size = search rules in
    ran_if (insert_text intake) (note_row c.args.self.now) (state g.S.Store c.args.tx.now.conn.now) (state g.S.Store c.execute.new.self.conn.now) c.execute.result
    (rw (c.params-to_sql.ensures, c.as_str.ensures.text, c.params-to_sql-2.ensures, c.as_str-2.ensures.text, c.params-to_sql-3.ensures, c.params-to_sql-4.ensures, c.as_str-3.ensures.text, c.params-to_sql-5.ensures, to_z-of_z fits0, c.in_ok-size.ensures, c.params-to_sql-6.ensures, c.as_slice.ensures.bytes, c.params-to_sql-7.ensures, c.retention_mode.ensures, c.params-to_sql-8.ensures, c.until.ensures.value, bound_until c.args.self.now.retention, c.params-to_sql-9.ensures, bound_hold c.args.self.now.hold, c.params-to_sql-10.ensures, c.number.ensures.value) at (c.execute.ensures.runs clean inside))

pub returns-clause-kept : goal.returns-clause-kept
returns-clause-kept g c clean inside = kept_if_refused _ _ (state g.S.Store c.args.tx.now.conn.now) (state g.S.Store c.execute.new.self.conn.now) c.execute.result (c.execute.ensures.runs clean inside)

pub returns-clause-limits : goal.returns-clause-limits
returns-clause-limits g c =
    let all : IsTypedNote c.args.self.now = search rules in
    on_ok_here c.execute.result all
