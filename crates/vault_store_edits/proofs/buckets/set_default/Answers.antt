use Rattle.vault_base.specs.declared.refusal.Table.TheVariants as table
use Rattle.vault_store_model.specs.Tests.{is_named, with_default_columns}
use Rattle.vault_store_edits.proofs.CastLemmas.{bound_number}
use Rattle.vault_store_edits.proofs.ChangeLemmas.{updates_by_rowid}
use Rattle.vault_store_edits.proofs.RecordTextLemmas.{by_name, default_text, finds_bucket}
use Rattle.vault_store_edits.proofs.RecordRowLemmas.{default_params, sets_default}
use Rattle.vault_store_edits.proofs.buckets.set_default.Goals as goal

pub returns-clause-edit : goal.returns-clause-edit
returns-clause-edit g c =
    let look = c.in_ok-check_rowids.ensures in
    updates_by_rowid g.S.Store c.args.tx.now.conn.now c.check_rowids.new.tx.conn.now c.execute.new.self.conn.now table.Buckets by_name (default_params c.args.name.now c.args.default) default_text c.execute.result
    (λ external clean has. rw (c.params-to_sql.ensures, c.as_str.ensures.text) at (look.unique external clean has by_name (finds_bucket external))) look.kept look.inside look.survives
    (λ clean inside. rw (c.params-to_sql-2.ensures, c.as_str-2.ensures.text, c.params-to_sql-3.ensures, c.default_mode.ensures, c.params-to_sql-4.ensures, bound_number c.default_days.result, c.default_days.ensures, c.params-to_sql-5.ensures, bound_number c.default_years.result, c.default_years.ensures) at (c.execute.ensures.runs clean inside)) c.execute.ensures.survives
    (is_named c.args.name.now) (with_default_columns c.args.default) (λ external. sets_default external c.args.name.now c.args.default _ _)
