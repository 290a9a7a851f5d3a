use Rattle.std.proofs.Common.{rules, ◌≡◌, true, false}
use Rattle.std.specs.Prelude.{is_some}
use Rattle.vault_core_evidence.proofs.Settings.{left_stops, left_goes_on}
use Rattle.vault_core_evidence.proofs.history.later_breach.Goals as goal

pub returns-then-is_some-clause-value : goal.returns-then-is_some-clause-value
returns-then-is_some-clause-value g c clean =
    let some : is_some c.in_ok-found.found ≡ true = search rules in
    left_stops (g.K.Kept.vault c.args.keeper.now) (g.K.Kept.vault c.loop-next.keeper) c.args.first.now c.loop-next.last.now c.next-item.result c.args.later.now c.loop-next.next-index c.in_ok-found.found
    c.loop-next.invariant.leaves.same c.loop-next-test.true c.next-item.is (c.loop-next.invariant.left (c.next_breach.ensures.leaves.honest clean)) (c.in_ok-found.ensures.value clean) some

pub loop-next-preserved : goal.loop-next-preserved
loop-next-preserved g c = record {
  leaves = search rules;
  left = λ clean.
      let none : is_some c.in_ok-found.found ≡ false = search rules in
      left_goes_on (g.K.Kept.vault c.args.keeper.now) (g.K.Kept.vault c.loop-next.keeper) c.args.first.now c.loop-next.last.now c.next-item.result c.args.later.now c.loop-next.next-index c.in_ok-found.found
      c.loop-next.invariant.leaves.same c.loop-next-test.true c.next-item.is (c.loop-next.invariant.left (c.next_breach.ensures.leaves.honest clean)) (c.in_ok-found.ensures.value clean) none;
}
