use Rattle.std.proofs.Common.{◌≡◌, arith, sym, ◌∙◌, true, false}
use Rattle.vault_core_model.specs.Places.{is_held_at}
use Rattle.vault_core_model.specs.declared.records.History.{History}
use Rattle.vault_core_list.proofs.Heads.{head-held, held-more, other-more}
use Rattle.vault_core_list.proofs.find.head.Goals.{then-is_held_at, else-is_held_at}
use Rattle.vault_core_list.proofs.find.head.Goals as goal

pub loop-history-preserved : goal.loop-history-preserved
loop-history-preserved c =
    let hs = c.args.histories.now in
    let i = c.loop-history.history-index in
    let h = c.history-item.result in
    let p = λ (g : History). is_held_at c.args.bucket.now c.args.key.now g.entry in
    let before = c.loop-history.invariant in
    elim c.if-is_held_at.branch [
      | then-is_held_at w ↦
          let held : p h ≡ true = sym c.is_held_at.ensures ∙ w.if-is_held_at.true in
          record {
            so_far = rw (w.newest-is, w.count-is, before.counted) (sym (head-held p hs i h c.loop-history-test.true c.history-item.is held));
            counted = rw (w.count-is, before.counted) (sym (held-more p hs i h c.loop-history-test.true c.history-item.is held));
            few = omega arith;
          }
      | else-is_held_at w ↦
          let other : p h ≡ false = sym c.is_held_at.ensures ∙ w.if-is_held_at.false in
          let same = other-more p hs i h c.loop-history-test.true c.history-item.is other in
          record {
            so_far = rw (w.newest-is, w.count-is, same) before.so_far;
            counted = rw (w.count-is, same) before.counted;
            few = omega arith;
          }
    ]
