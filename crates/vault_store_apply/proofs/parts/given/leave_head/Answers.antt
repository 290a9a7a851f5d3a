use Rattle.std.proofs.Common.{rules, ◌≡◌, None}
use Rattle.sqlite.specs.Held.{state}
use Rattle.vault_store_edits.proofs.ReadyLemmas.{one_done}
use Rattle.vault_store_apply.proofs.parts.given.leave_head.Goals as goal

pub returns-in_default-clause-part : goal.returns-in_default-clause-part
returns-in_default-clause-part g c = record {
  edits = λ external clean inside ready.
      let old = state g.S.Store c.args.tx.now.conn.now in
      let new = state g.S.Store c.delete_head.new.tx.conn.now in
      let none : c.args.left ≡ None = search rules in
      rw none (one_done external old new _ ready (c.in_ok-delete_head.ensures.edit.edits external clean inside) (c.in_ok-delete_head.ensures.edit.sound external clean inside ready.schema));
  kept = λ _ _ _ _. tt;
  survives = c.delete_head.ensures.edit.survives;
}
