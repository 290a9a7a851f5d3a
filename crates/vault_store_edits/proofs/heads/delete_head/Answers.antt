use Rattle.std.proofs.Common.{[], ◌∷◌}
use Rattle.sqlite_value.specs.declared.value.Value.TheVariants.{Text}
use Rattle.vault_base.specs.declared.refusal.Table.TheVariants as table
use Rattle.vault_store_model.specs.Tests.{is_of_key}
use Rattle.vault_store_edits.proofs.ChangeLemmas.{deletes_by_rowid}
use Rattle.vault_store_edits.proofs.EntryTextLemmas.{by_key, finds_head, no_head_text}
use Rattle.vault_store_edits.proofs.EntryRowLemmas.{drops_head}
use Rattle.vault_store_edits.proofs.heads.delete_head.Goals as goal

pub returns-clause-edit : goal.returns-clause-edit
returns-clause-edit g c =
    let look = c.in_ok-check_rowids.ensures in
    deletes_by_rowid g.S.Store c.args.tx.now.conn.now c.check_rowids.new.tx.conn.now c.execute.new.self.conn.now table.Heads by_key (Text c.args.bucket.now ∷ Text c.args.key.now ∷ []) no_head_text c.execute.result
    (λ external clean has. rw (c.params-to_sql.ensures, c.as_str.ensures.text, c.params-to_sql-2.ensures, c.as_str-2.ensures.text) at (look.unique external clean has by_key (finds_head external))) look.kept look.inside look.survives
    (λ clean inside. rw (c.params-to_sql-3.ensures, c.as_str-3.ensures.text, c.params-to_sql-4.ensures, c.as_str-4.ensures.text) at (c.execute.ensures.runs clean inside)) c.execute.ensures.survives
    (is_of_key c.args.bucket.now c.args.key.now) (λ external. drops_head external c.args.bucket.now c.args.key.now _ _)
