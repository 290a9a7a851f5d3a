use Rattle.sqlite.specs.Held.{state}
use Rattle.vault_store_edits.proofs.CastLemmas.{bound_number, bound_flag, bound_whole}
use Rattle.std.proofs.Common.{rules}
use Rattle.vault_store_edits.proofs.TransactionLemmas.{on_ok_here}
use Rattle.vault_store_edits.specs.Typed.{IsTypedRule}
use Rattle.vault_audit_model.specs.Rows.{rule_row}
use Rattle.vault_audit_model.specs.Tables.{rules as rules_table}
use Rattle.vault_audit_model.proofs.OutcomeLemmas.{kept_if_refused}
use Rattle.vault_audit_schema.specs.Texts.{insert_text}
use Rattle.vault_store_edits.proofs.PutLemmas.{ran_if}
use Rattle.vault_store_edits.proofs.rules.NewRulePut.insert.Goals as goal

pub returns-clause-ran : goal.returns-clause-ran
returns-clause-ran g c external clean inside =
    ran_if (insert_text rules_table) (rule_row (record { bucket = c.args.self.now.bucket.now; place = c.args.self.now.place; rule = c.args.self.now.rule.now })) (state g.S.Store c.args.tx.now.conn.now) (state g.S.Store c.execute.new.self.conn.now) c.execute.result
    (rw (c.params-to_sql.ensures, c.as_str.ensures.text, c.params-to_sql-2.ensures, c.params-to_sql-3.ensures, c.as_str-2.ensures.text, c.params-to_sql-4.ensures, c.as_str-3.ensures.text, c.params-to_sql-5.ensures, bound_flag c.args.self.now.rule.now.enabled, c.params-to_sql-6.ensures, bound_number c.args.self.now.rule.now.days, c.params-to_sql-7.ensures, bound_flag c.args.self.now.rule.now.lone_markers, c.params-to_sql-8.ensures, bound_number c.noncurrent_days.result, c.noncurrent_days.ensures, c.params-to_sql-9.ensures, bound_number c.noncurrent_newer.result, c.noncurrent_newer.ensures, c.params-to_sql-10.ensures, c.in_ok-larger.ensures, bound_whole c.args.self.now.rule.now.larger, c.params-to_sql-11.ensures, c.in_ok-smaller.ensures, bound_whole c.args.self.now.rule.now.smaller) at (c.execute.ensures.runs clean inside))

pub returns-clause-kept : goal.returns-clause-kept
returns-clause-kept g c clean inside = kept_if_refused _ _ (state g.S.Store c.args.tx.now.conn.now) (state g.S.Store c.execute.new.self.conn.now) c.execute.result (c.execute.ensures.runs clean inside)

pub returns-clause-limits : goal.returns-clause-limits
returns-clause-limits g c =
    let all : IsTypedRule c.args.self.now.rule.now = search rules in
    on_ok_here c.execute.result all
