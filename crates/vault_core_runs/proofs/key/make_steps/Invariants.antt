use Rattle.std.proofs.Common.{take, false}
use Rattle.vault_core_model.specs.Leaves.{Leaves}
use Rattle.vault_rules.specs.KeyPlan.{at_key}
use Rattle.vault_core_runs.specs.Making.{MakesAll}
use Rattle.vault_core_runs.proofs.key.make_steps.Given as goal

-- the steps so far are made
abbrev pub invariant-loop-step : goal.invariant-loop-step
invariant-loop-step g l = record {
  leaves : Leaves g.K.Kept l.fn.keeper l.keeper false;
  makes : g.K.Kept.is_honest l.keeper → MakesAll (g.K.Kept.vault l.fn.keeper) l.run.bucket l.run.at (at_key l.key (take l.step-index l.steps)) l.fn.counts l.counts (g.K.Kept.vault l.keeper);
}
