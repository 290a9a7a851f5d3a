use Rattle.std.proofs.Common.{[], ◌∷◌}
use Rattle.sqlite_value.specs.declared.value.Value.TheVariants.{Text}
use Rattle.vault_base.specs.declared.refusal.Table.TheVariants as table
use Rattle.vault_store_model.specs.Tests.{is_named}
use Rattle.vault_store_edits.proofs.ChangeLemmas.{deletes_by_rowid}
use Rattle.vault_store_edits.proofs.RecordTextLemmas.{by_name, finds_rules, no_rules_text}
use Rattle.vault_store_edits.proofs.RecordRowLemmas.{drops_rules}
use Rattle.vault_store_edits.proofs.rules.delete_rules.Goals as goal

pub returns-clause-edit : goal.returns-clause-edit
returns-clause-edit g c =
    let look = c.in_ok-check_rowids.ensures in
    deletes_by_rowid g.S.Store c.args.tx.now.conn.now c.check_rowids.new.tx.conn.now c.execute.new.self.conn.now table.Rules by_name (Text c.args.bucket.now ∷ []) no_rules_text c.execute.result
    (λ external clean has. rw (c.params-to_sql.ensures, c.as_str.ensures.text) at (look.unique external clean has by_name (finds_rules external))) look.kept look.inside look.survives
    (λ clean inside. rw (c.params-to_sql-2.ensures, c.as_str-2.ensures.text) at (c.execute.ensures.runs clean inside)) c.execute.ensures.survives
    (is_named c.args.bucket.now) (λ external. drops_rules external c.args.bucket.now _ _)
