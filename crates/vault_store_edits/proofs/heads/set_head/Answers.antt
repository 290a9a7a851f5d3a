use Rattle.std.proofs.Common.{FitsSigned, w64, rules, to_z-of_z}
use Rattle.vault_base.specs.declared.refusal.Table.TheVariants as table
use Rattle.vault_audit_model.specs.declared.rows.HeadRow.{HeadRow}
use Rattle.vault_store_model.specs.Tests.{is_of_key, with_head_columns}
use Rattle.vault_store_edits.proofs.ChangeLemmas.{updates_by_rowid}
use Rattle.vault_store_edits.proofs.EntryTextLemmas.{by_key, finds_head, newer_text}
use Rattle.vault_store_edits.proofs.EntryRowLemmas.{head_params, sets_head}
use Rattle.vault_store_edits.proofs.heads.set_head.Goals as goal

pub returns-clause-edit : goal.returns-clause-edit
returns-clause-edit g c =
    let look = c.in_ok-check_rowids.ensures in
    let fits0 : FitsSigned w64 c.in_ok-count.count = search rules in
    let head : HeadRow = record { bucket = c.args.bucket.now; key = c.args.key.now; head = c.args.head.now } in
    updates_by_rowid g.S.Store c.args.tx.now.conn.now c.check_rowids.new.tx.conn.now c.execute.new.self.conn.now table.Heads by_key (head_params head) newer_text c.execute.result
    (λ external clean has. rw (c.params-to_sql.ensures, c.as_str.ensures.text, c.params-to_sql-2.ensures, c.as_str-2.ensures.text) at (look.unique external clean has by_key (finds_head external))) look.kept look.inside look.survives
    (λ clean inside. rw (c.params-to_sql-3.ensures, c.as_str-3.ensures.text, c.params-to_sql-4.ensures, c.as_str-4.ensures.text, c.params-to_sql-5.ensures, c.number.ensures.value, c.params-to_sql-6.ensures, to_z-of_z fits0, c.in_ok-count.ensures) at (c.execute.ensures.runs clean inside)) c.execute.ensures.survives
    (is_of_key head.bucket head.key) (with_head_columns head.head) (λ external. sets_head external head _ _)
