use Rattle.std.proofs.Common.{[], ◌∷◌}
use Rattle.vault_base.specs.declared.refusal.Table.TheVariants as table
use Rattle.vault_audit_model.specs.Values.{number}
use Rattle.vault_store_model.specs.Tests.{is_numbered}
use Rattle.vault_store_edits.proofs.ChangeLemmas.{deletes_by_rowid}
use Rattle.vault_store_edits.proofs.EntryTextLemmas.{by_id, finds_external, no_external_text}
use Rattle.vault_store_edits.proofs.EntryRowLemmas.{drops_external}
use Rattle.vault_store_edits.proofs.external.delete_external.Goals as goal

pub returns-clause-edit : goal.returns-clause-edit
returns-clause-edit g c =
    let look = c.in_ok-check_id.ensures in
    deletes_by_rowid g.S.Store c.args.tx.now.conn.now c.check_id.new.tx.conn.now c.execute.new.self.conn.now table.External by_id (number c.args.id ∷ []) no_external_text c.execute.result
    (λ external clean has. look.unique external clean has by_id (finds_external external)) look.kept look.inside look.survives
    (λ clean inside. rw (c.params-to_sql.ensures, c.number.ensures.value) at (c.execute.ensures.runs clean inside)) c.execute.ensures.survives
    (is_numbered c.args.id) (λ external. drops_external external c.args.id _ _)
