use Rattle.std.proofs.Common.{rules}
use Rattle.vault_rules.specs.KeyPlan.{at_key}
use Rattle.vault_core_runs.proofs.Making.{MakesSteps-err}
use Rattle.vault_core_runs.proofs.OverKeys.{has_cause, next_may, still_may, next_step, stopped_step}
use Rattle.vault_core_runs.proofs.key.make_steps.Goals as goal

pub make_step-requires-clause-known : goal.make_step-requires-clause-known
make_step-requires-clause-known g c =
    has_cause c.args.run.now.rules c.args.steps.now c.loop-step.step-index c.step-item.result c.requires.causes c.loop-step-test.true c.step-item.is

pub make_step-requires-clause-given : goal.make_step-requires-clause-given
make_step-requires-clause-given g c = λ h.
    let h0 = c.loop-step.invariant.leaves.honest h in
    (still_may (g.K.Kept.vault c.args.keeper.now) (g.K.Kept.vault c.loop-step.keeper) c.args.run.now.bucket c.args.run.now.at c.args.key.now c.args.run.now.rules c.args.steps.now c.loop-step.step-index
    c.args.counts.now c.loop-step.counts (c.requires.may h0) (c.requires.given h0) (c.requires.planned h0) (c.loop-step.invariant.makes h)).1

pub make_step-requires-clause-in_time : goal.make_step-requires-clause-in_time
make_step-requires-clause-in_time g c = λ h.
    let h0 = c.loop-step.invariant.leaves.honest h in
    (still_may (g.K.Kept.vault c.args.keeper.now) (g.K.Kept.vault c.loop-step.keeper) c.args.run.now.bucket c.args.run.now.at c.args.key.now c.args.run.now.rules c.args.steps.now c.loop-step.step-index
    c.args.counts.now c.loop-step.counts (c.requires.may h0) (c.requires.given h0) (c.requires.planned h0) (c.loop-step.invariant.makes h)).0.in_time

-- the next step of the plan may be made of the vault that the steps before it leave
pub make_step-requires-clause-allowed : goal.make_step-requires-clause-allowed
make_step-requires-clause-allowed g c = λ h.
    let h0 = c.loop-step.invariant.leaves.honest h in
    next_may (g.K.Kept.vault c.args.keeper.now) (g.K.Kept.vault c.loop-step.keeper) c.args.run.now.bucket c.args.run.now.at c.args.key.now c.args.run.now.rules c.args.steps.now c.loop-step.step-index
    c.args.counts.now c.loop-step.counts c.step-item.result (c.requires.may h0) (c.requires.given h0) (c.requires.planned h0) (c.loop-step.invariant.makes h) c.loop-step-test.true c.step-item.is

pub loop-step-preserved : goal.loop-step-preserved
loop-step-preserved g c = record {
  leaves = record { honest = λ h. c.loop-step.invariant.leaves.honest (c.make_step.ensures.leaves.honest h); counted = search rules };
  makes = λ h. next_step (g.K.Kept.vault c.args.keeper.now) (g.K.Kept.vault c.loop-step.keeper) (g.K.Kept.vault c.make_step.new.keeper) c.args.run.now.bucket c.args.run.now.at c.args.key.now c.args.steps.now c.loop-step.step-index
      c.step-item.result c.args.counts.now c.loop-step.counts c.make_step.new.counts c.loop-step-test.true c.step-item.is (c.loop-step.invariant.makes (c.make_step.ensures.leaves.honest h)) (c.in_ok-make_step.ensures.makes h);
}

-- the steps before are made, and of this one what was made before it halted
pub returns-in_err-make_step-clause-makes : goal.returns-in_err-make_step-clause-makes
returns-in_err-make_step-clause-makes g c = λ h.
    let v = g.K.Kept.vault c.args.keeper.now in
    let v2 = g.K.Kept.vault c.make_step.new.keeper in
    let b = c.args.run.now.bucket in
    let t = c.args.run.now.at in
    let e = c.in_err-make_step.field-0.0 in
    MakesSteps-err c.from_residual.result e v b t (at_key c.args.key.now c.args.steps.now) c.args.counts.now c.make_step.new.counts v2 c.from_residual.ensures.1
    (stopped_step v (g.K.Kept.vault c.loop-step.keeper) v2 b t c.args.key.now c.args.steps.now c.loop-step.step-index c.step-item.result c.args.counts.now c.loop-step.counts c.make_step.new.counts e
    c.loop-step-test.true c.step-item.is (c.loop-step.invariant.makes (c.make_step.ensures.leaves.honest h)) (c.in_err-make_step.ensures.makes h))
