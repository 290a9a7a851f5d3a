use Rattle.std.proofs.Common.{FitsSigned, w64, rules, to_z-of_z}
use Rattle.vault_base.specs.declared.refusal.Table.TheVariants as table
use Rattle.vault_store_model.specs.Tests.{is_named, with_sums}
use Rattle.vault_store_edits.proofs.ChangeLemmas.{updates_by_rowid}
use Rattle.vault_store_edits.proofs.RecordTextLemmas.{by_name, finds_department, sums_text}
use Rattle.vault_store_edits.proofs.RecordRowLemmas.{sums_params, sets_sums}
use Rattle.vault_store_edits.proofs.departments.set_sums.Goals as goal

pub returns-clause-edit : goal.returns-clause-edit
returns-clause-edit g c =
    let look = c.in_ok-check_rowids.ensures in
    let fits0 : FitsSigned w64 c.in_ok-admitted.admitted = search rules in
    let fits1 : FitsSigned w64 c.in_ok-held.held = search rules in
    let fits2 : FitsSigned w64 c.in_ok-removed.removed = search rules in
    let fits3 : FitsSigned w64 c.in_ok-weighted.weighted = search rules in
    let fits4 : FitsSigned w64 c.in_ok-closed.closed = search rules in
    let fits5 : FitsSigned w64 c.in_ok-received.received = search rules in
    let fits6 : FitsSigned w64 c.in_ok-handed.handed = search rules in
    updates_by_rowid g.S.Store c.args.tx.now.conn.now c.check_rowids.new.tx.conn.now c.execute.new.self.conn.now table.Departments by_name (sums_params c.args.name.now c.args.sums.now) sums_text c.execute.result
    (λ external clean has. rw (c.params-to_sql.ensures, c.as_str.ensures.text) at (look.unique external clean has by_name (finds_department external))) look.kept look.inside look.survives
    (λ clean inside. rw (c.params-to_sql-2.ensures, c.as_str-2.ensures.text, c.params-to_sql-3.ensures, to_z-of_z fits0, c.in_ok-admitted.ensures, c.params-to_sql-4.ensures, to_z-of_z fits1, c.in_ok-held.ensures, c.params-to_sql-5.ensures, to_z-of_z fits2, c.in_ok-removed.ensures, c.params-to_sql-6.ensures, to_z-of_z fits3, c.in_ok-weighted.ensures, c.params-to_sql-7.ensures, to_z-of_z fits4, c.in_ok-closed.ensures, c.params-to_sql-8.ensures, to_z-of_z fits5, c.in_ok-received.ensures, c.params-to_sql-9.ensures, to_z-of_z fits6, c.in_ok-handed.ensures) at (c.execute.ensures.runs clean inside)) c.execute.ensures.survives
    (is_named c.args.name.now) (with_sums c.args.sums.now) (λ external. sets_sums external c.args.name.now c.args.sums.now _ _)
