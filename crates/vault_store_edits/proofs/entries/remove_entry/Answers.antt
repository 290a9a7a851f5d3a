use Rattle.std.proofs.Common.{FitsSigned, w64, rules, to_z-of_z}
use Rattle.vault_base.specs.declared.refusal.Table.TheVariants as table
use Rattle.vault_store_model.specs.Tests.{is_numbered, removed_row}
use Rattle.vault_store_edits.proofs.ChangeLemmas.{updates_by_rowid}
use Rattle.vault_store_edits.proofs.EntryTextLemmas.{by_id, finds_entry, removed_text}
use Rattle.vault_store_edits.proofs.EntryRowLemmas.{removal_params, removes_entry}
use Rattle.vault_store_edits.proofs.entries.remove_entry.Goals as goal

pub returns-clause-edit : goal.returns-clause-edit
returns-clause-edit g c =
    let look = c.in_ok-check_id.ensures in
    let fits0 : FitsSigned w64 c.seconds-at.result = search rules in
    updates_by_rowid g.S.Store c.args.tx.now.conn.now c.check_id.new.tx.conn.now c.execute.new.self.conn.now table.Entries by_id (removal_params c.args.id c.args.removal.now) removed_text c.execute.result
    (λ external clean has. look.unique external clean has by_id (finds_entry external)) look.kept look.inside look.survives
    (λ clean inside. rw (c.params-to_sql.ensures, c.number.ensures.value, c.params-to_sql-2.ensures, to_z-of_z fits0, c.seconds-at.ensures.value, c.params-to_sql-3.ensures, c.cause_number-cause.ensures, c.params-to_sql-4.ensures, c.cause_text-by.ensures.value) at (c.execute.ensures.runs clean inside)) c.execute.ensures.survives
    (is_numbered c.args.id) (removed_row c.args.removal.now) (λ external. removes_entry external c.args.id c.args.removal.now _ _)
