use Rattle.std.proofs.Common.{rules, arith}
use Rattle.vault_core_listing.proofs.AllKeys.{key_filled, keys_filled}
use Rattle.vault_core_listing.proofs.listings.list_keys.Goals as goal

pub loop-key-preserved : goal.loop-key-preserved
loop-key-preserved g c = record {
  leaves = search rules;
  so_far = λ honest. key_filled (g.K.Kept.vault c.args.keeper.now) (g.K.Kept.vault c.loop-key.keeper) c.args.command.now c.args.page.now c.loop-key.page c.list_key.new.page c.args.keys.now c.loop-key.key-index c.key-item.result
      c.loop-key.invariant.leaves.same c.loop-key-test.true c.key-item.is (c.loop-key.invariant.so_far (c.list_key.ensures.leaves.honest honest)) (c.in_ok-list_key.ensures.value honest);
}

pub returns-clause-value : goal.returns-clause-value
returns-clause-value g c = λ honest. keys_filled (g.K.Kept.vault c.args.keeper.now) c.args.command.now c.args.page.now c.loop-key.page c.args.keys.now c.loop-key.key-index (omega arith) (c.loop-key.invariant.so_far honest)
