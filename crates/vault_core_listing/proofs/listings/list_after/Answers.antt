use Rattle.std.proofs.Common.{rules, ap, arith}
use Rattle.vault_core_listing.specs.Walk.{completed}
use Rattle.vault_core_listing.proofs.AllKeys.{few_keys, walk_ends, walk_goes_on}
use Rattle.vault_core_listing.proofs.listings.list_after.Goals as goal

pub loop-init : goal.loop-init
loop-init g c = record {
  leaves = search rules;
  left = λ honest. ap (completed (g.K.Kept.vault c.args.keeper.now) c.args.command.now c.args.page.now) c.in_ok-after.ensures;
  few = λ honest. let few = few_keys (g.K.Kept.vault c.args.keeper.now) c.args.command.now.bucket c.in_ok-after.after (g.K.Kept.sound _ honest) in omega arith;
}

-- no key is left
pub returns-in_default-clause-value : goal.returns-in_default-clause-value
returns-in_default-clause-value g c = λ honest.
    walk_ends (g.K.Kept.vault c.args.keeper.now) (g.K.Kept.vault c.loop.keeper) c.args.command.now c.args.page.now c.loop.page c.list_keys_after.new.page c.loop.after c.in_ok-next.field-0
    c.loop.invariant.leaves.same c.in_default.is (c.loop.invariant.left (c.list_keys_after.ensures.leaves.honest honest)) (c.in_ok-next.ensures.value honest)

pub loop-preserved : goal.loop-preserved
loop-preserved g c = record {
  leaves = search rules;
  left = λ honest. (walk_goes_on (g.K.Kept.vault c.args.keeper.now) (g.K.Kept.vault c.loop.keeper) c.args.command.now c.args.page.now c.loop.page c.list_keys_after.new.page c.loop.after c.in_ok-next.field-0 c.in-Some.next
      c.loop.invariant.leaves.same c.in-Some.is (c.loop.invariant.left (c.list_keys_after.ensures.leaves.honest honest)) (c.in_ok-next.ensures.value honest)).0;
  few = λ honest.
      let fewer = walk_goes_on (g.K.Kept.vault c.args.keeper.now) (g.K.Kept.vault c.loop.keeper) c.args.command.now c.args.page.now c.loop.page c.list_keys_after.new.page c.loop.after c.in_ok-next.field-0 c.in-Some.next
      c.loop.invariant.leaves.same c.in-Some.is (c.loop.invariant.left (c.list_keys_after.ensures.leaves.honest honest)) (c.in_ok-next.ensures.value honest) in
      let few = c.loop.invariant.few (c.list_keys_after.ensures.leaves.honest honest) in omega (arith, few, fewer.1);
}

-- n pages there can't be
pub returns-clause-value : goal.returns-clause-value
returns-clause-value g c = λ honest. absurd (omega (arith, c.loop.invariant.few honest))
