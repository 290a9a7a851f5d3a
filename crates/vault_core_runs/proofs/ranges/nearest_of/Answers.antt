use Rattle.std.proofs.Common.{arith}
use Rattle.vault_core_runs.proofs.Nearest.{found_all, one_more}
use Rattle.vault_core_runs.proofs.ranges.nearest_of.Goals as goal

pub loop-rule-preserved : goal.loop-rule-preserved
loop-rule-preserved c =
    one_more c.args.place.now c.loop-rule.found c.in_ok-next.next c.args.rules.now c.loop-rule.rule-index c.rule-item.result c.loop-rule-test.true c.rule-item.is c.in_ok-next.ensures c.loop-rule.invariant

pub returns : goal.returns
returns c = found_all c.args.place.now c.loop-rule.found c.args.rules.now c.loop-rule.rule-index (omega arith) c.loop-rule.invariant
