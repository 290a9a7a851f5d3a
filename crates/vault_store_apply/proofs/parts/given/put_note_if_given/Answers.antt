use Rattle.std.proofs.Common.{rules, ◌≡◌, Some}
use Rattle.sqlite.specs.Held.{state}
use Rattle.vault_store_edits.proofs.ReadyLemmas.{one_done}
use Rattle.vault_store_apply.proofs.parts.given.put_note_if_given.Goals as goal

pub returns-clause-part : goal.returns-clause-part
returns-clause-part g c = record {
  edits = λ external clean inside ready.
      let old = state g.S.Store c.args.tx.now.conn.now in
      let new = state g.S.Store c.put_note.new.tx.conn.now in
      let some : c.args.note.now ≡ Some c.in-Some.note = search rules in
      rw some (one_done external old new _ ready (c.in_ok-put_note.ensures.edit.edits external clean inside) (c.in_ok-put_note.ensures.edit.sound external clean inside ready.schema));
  kept = λ _ _ _ _. tt;
  survives = c.put_note.ensures.edit.survives;
}
