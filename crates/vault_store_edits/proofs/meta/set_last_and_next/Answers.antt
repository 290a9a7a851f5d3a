use Rattle.std.proofs.Common.{[], ◌∷◌, FitsSigned, w64, rules, to_z-of_z}
use Rattle.vault_base.specs.declared.refusal.Table.TheVariants as table
use Rattle.vault_audit_model.specs.Values.{number}
use Rattle.vault_store_model.specs.Tests.{every, with_last_and_next}
use Rattle.vault_store_edits.proofs.ChangeLemmas.{updates_by_rowid}
use Rattle.vault_store_edits.proofs.RecordTextLemmas.{finds_meta, next_text}
use Rattle.vault_store_edits.proofs.RecordRowLemmas.{sets_next}
use Rattle.vault_store_edits.proofs.TransactionLemmas.{on_ok_here}
use Rattle.vault_store_edits.proofs.meta.set_last_and_next.Goals as goal

pub returns-clause-edit : goal.returns-clause-edit
returns-clause-edit g c =
    let look = c.in_ok-check_rowids.ensures in
    let fits0 : FitsSigned w64 c.seconds.result = search rules in
    let fits1 : FitsSigned w64 c.in_ok-next.next = search rules in
    updates_by_rowid g.S.Store c.args.tx.now.conn.now c.check_rowids.new.tx.conn.now c.execute.new.self.conn.now table.Meta [] (number c.args.last ∷ number c.args.next ∷ []) next_text c.execute.result
    (λ external clean has. look.unique external clean has [] (finds_meta external)) look.kept look.inside look.survives
    (λ clean inside. rw (c.params-to_sql.ensures, to_z-of_z fits0, c.seconds.ensures.value, c.params-to_sql-2.ensures, to_z-of_z fits1, c.in_ok-next.ensures) at (c.execute.ensures.runs clean inside)) c.execute.ensures.survives
    every (with_last_and_next c.args.last c.args.next) (λ external. sets_next external c.args.last c.args.next _ _)

pub returns-clause-range : goal.returns-clause-range
returns-clause-range g c = on_ok_here c.execute.result c.seconds.ensures.range
