use Rattle.sqlite.specs.Held.{state}
use Rattle.std.proofs.Common.{FitsSigned, w64, rules, to_z-of_z}
use Rattle.vault_store_edits.proofs.CastLemmas.{bound_number, bound_flag}
use Rattle.vault_store_edits.proofs.BoundLemmas.{bound_bytes, bound_name, bound_at, bound_by}
use Rattle.vault_store_edits.proofs.TransactionLemmas.{on_ok_here}
use Rattle.vault_store_edits.specs.Typed.{IsTypedEntry}
use Rattle.vault_audit_model.specs.Rows.{entry_row}
use Rattle.vault_audit_model.specs.Tables.{entries}
use Rattle.vault_audit_model.proofs.OutcomeLemmas.{kept_if_refused}
use Rattle.vault_audit_schema.specs.Texts.{insert_text}
use Rattle.vault_store_edits.proofs.PutLemmas.{ran_if}
use Rattle.vault_store_edits.proofs.entries.EntryPut.insert.Goals as goal

pub returns-clause-ran : goal.returns-clause-ran
returns-clause-ran g c external clean inside =
    let fits0 : FitsSigned w64 c.in_ok-size.size = search rules in
    let fits1 : FitsSigned w64 c.seconds.result = search rules in
    ran_if (insert_text entries) (entry_row c.args.self.now) (state g.S.Store c.args.tx.now.conn.now) (state g.S.Store c.execute.new.self.conn.now) c.execute.result
    (rw (c.params-to_sql.ensures, c.number.ensures.value, c.params-to_sql-2.ensures, c.as_str.ensures.text, c.params-to_sql-3.ensures, c.as_str-2.ensures.text, c.params-to_sql-4.ensures, bound_flag c.args.self.now.marker, c.params-to_sql-5.ensures, to_z-of_z fits0, c.in_ok-size.ensures, c.params-to_sql-6.ensures, c.digest_bytes.ensures.value, bound_bytes c.args.self.now.digest, c.params-to_sql-7.ensures, to_z-of_z fits1, c.seconds.ensures.value, c.params-to_sql-8.ensures, bound_flag c.is_rule.result, c.is_rule.ensures, c.params-to_sql-9.ensures, c.author_text.ensures.value, bound_name c.args.self.now.by, c.params-to_sql-10.ensures, c.removal_at.ensures, bound_at c.args.self.now.removal, c.params-to_sql-11.ensures, bound_number c.removal_cause.result, c.removal_cause.ensures, c.params-to_sql-12.ensures, c.removal_by.ensures, bound_by c.args.self.now.removal) at (c.execute.ensures.runs clean inside))

pub returns-clause-kept : goal.returns-clause-kept
returns-clause-kept g c clean inside = kept_if_refused _ _ (state g.S.Store c.args.tx.now.conn.now) (state g.S.Store c.execute.new.self.conn.now) c.execute.result (c.execute.ensures.runs clean inside)

pub returns-clause-limits : goal.returns-clause-limits
returns-clause-limits g c =
    let all : IsTypedEntry c.args.self.now = search rules in
    on_ok_here c.execute.result all
