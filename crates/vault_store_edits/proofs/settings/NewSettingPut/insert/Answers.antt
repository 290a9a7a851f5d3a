use Rattle.sqlite.specs.Held.{state}
use Rattle.std.proofs.Common.{FitsSigned, w64, rules, to_z-of_z}
use Rattle.vault_store_edits.proofs.CastLemmas.{bound_flag}
use Rattle.vault_store_edits.proofs.BoundLemmas.{bound_until}
use Rattle.vault_audit_model.specs.Rows.{setting_row}
use Rattle.vault_audit_model.specs.Tables.{settings}
use Rattle.vault_audit_model.proofs.OutcomeLemmas.{kept_if_refused}
use Rattle.vault_audit_schema.specs.Texts.{insert_text}
use Rattle.vault_store_edits.proofs.PutLemmas.{ran_if}
use Rattle.vault_store_edits.proofs.settings.NewSettingPut.insert.Goals as goal

pub returns-clause-ran : goal.returns-clause-ran
returns-clause-ran g c external clean inside =
    let fits0 : FitsSigned w64 c.seconds.result = search rules in
    ran_if (insert_text settings) (setting_row (record { id = c.args.self.now.id; place = c.args.self.now.place; setting = c.args.self.now.setting.now })) (state g.S.Store c.args.tx.now.conn.now) (state g.S.Store c.execute.new.self.conn.now) c.execute.result
    (rw (c.params-to_sql.ensures, c.number.ensures.value, c.params-to_sql-2.ensures, c.params-to_sql-3.ensures, to_z-of_z fits0, c.seconds.ensures.value, c.params-to_sql-4.ensures, c.as_str.ensures.text, c.params-to_sql-5.ensures, c.retention_mode.ensures, c.params-to_sql-6.ensures, c.until.ensures.value, bound_until c.args.self.now.setting.now.lock.retention, c.params-to_sql-7.ensures, bound_flag c.args.self.now.setting.now.lock.hold, c.params-to_sql-8.ensures, bound_flag c.args.self.now.setting.now.bypass) at (c.execute.ensures.runs clean inside))

pub returns-clause-kept : goal.returns-clause-kept
returns-clause-kept g c clean inside = kept_if_refused _ _ (state g.S.Store c.args.tx.now.conn.now) (state g.S.Store c.execute.new.self.conn.now) c.execute.result (c.execute.ensures.runs clean inside)
