use Rattle.vault_base.specs.declared.refusal.Table.TheVariants as table
use Rattle.vault_store_model.specs.Tests.{is_named, with_owner}
use Rattle.vault_store_edits.proofs.ChangeLemmas.{updates_by_rowid}
use Rattle.vault_store_edits.proofs.RecordTextLemmas.{by_name, finds_bucket, owner_text}
use Rattle.vault_store_edits.proofs.RecordRowLemmas.{owner_params, sets_owner}
use Rattle.vault_store_edits.proofs.buckets.set_owner.Goals as goal

pub returns-clause-edit : goal.returns-clause-edit
returns-clause-edit g c =
    let look = c.in_ok-check_rowids.ensures in
    updates_by_rowid g.S.Store c.args.tx.now.conn.now c.check_rowids.new.tx.conn.now c.execute.new.self.conn.now table.Buckets by_name (owner_params c.args.name.now c.args.dept.now) owner_text c.execute.result
    (λ external clean has. rw (c.params-to_sql.ensures, c.as_str.ensures.text) at (look.unique external clean has by_name (finds_bucket external))) look.kept look.inside look.survives
    (λ clean inside. rw (c.params-to_sql-2.ensures, c.as_str-2.ensures.text, c.params-to_sql-3.ensures, c.as_str-3.ensures.text) at (c.execute.ensures.runs clean inside)) c.execute.ensures.survives
    (is_named c.args.name.now) (with_owner c.args.dept.now) (λ external. sets_owner external c.args.name.now c.args.dept.now _ _)
