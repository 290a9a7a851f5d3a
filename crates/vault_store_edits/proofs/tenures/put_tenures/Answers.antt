use Rattle.std.proofs.Common.{FitsSigned, w64, rules, to_z-of_z}
use Rattle.sqlite.specs.Held.{state}
use Rattle.vault_base.specs.declared.refusal.Table.TheVariants as table
use Rattle.vault_audit_model.proofs.OutcomeLemmas.{kept_if_refused}
use Rattle.vault_store_model.specs.Copies.{is_held_version, moved_row}
use Rattle.vault_store_model.proofs.EditLemmas.{with_copies_ignores}
use Rattle.vault_store_edits.proofs.StatementLemmas.{edits_if, sound_if}
use Rattle.vault_store_edits.proofs.EntryRowLemmas.{puts_tenures}
use Rattle.vault_store_edits.proofs.tenures.put_tenures.Goals as goal

pub returns-clause-edit : goal.returns-clause-edit
returns-clause-edit g c = record {
  edits = λ external clean inside.
      let old = state g.S.Store c.args.tx.now.conn.now in
      let new = state g.S.Store c.execute.new.self.conn.now in
      let bucket = c.args.bucket.now in
      let dept = c.args.dept.now in
      let fits : FitsSigned w64 c.seconds.result = search rules in
      edits_if external _ _ old new _ c.execute.result (with_copies_ignores table.Tenures table.Entries (is_held_version bucket) (moved_row c.args.number dept c.args.at)) (puts_tenures external bucket c.args.number dept c.args.at old new)
      (rw (c.params-to_sql.ensures, c.as_str.ensures.text, c.params-to_sql-2.ensures, c.params-to_sql-3.ensures, c.as_str-2.ensures.text, c.params-to_sql-4.ensures, to_z-of_z fits, c.seconds.ensures.value) at (c.execute.ensures.runs clean inside));
  sound = λ external clean inside has.
      let old = state g.S.Store c.args.tx.now.conn.now in
      let new = state g.S.Store c.execute.new.self.conn.now in
      let fits : FitsSigned w64 c.seconds.result = search rules in
      sound_if external _ _ old new _ c.execute.result has (puts_tenures external c.args.bucket.now c.args.number c.args.dept.now c.args.at old new)
      (rw (c.params-to_sql.ensures, c.as_str.ensures.text, c.params-to_sql-2.ensures, c.params-to_sql-3.ensures, c.as_str-2.ensures.text, c.params-to_sql-4.ensures, to_z-of_z fits, c.seconds.ensures.value) at (c.execute.ensures.runs clean inside));
  kept = λ clean inside. kept_if_refused _ _ (state g.S.Store c.args.tx.now.conn.now) (state g.S.Store c.execute.new.self.conn.now) c.execute.result (c.execute.ensures.runs clean inside);
  survives = c.execute.ensures.survives;
}
