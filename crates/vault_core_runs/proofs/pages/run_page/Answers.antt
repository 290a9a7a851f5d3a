use Rattle.std.proofs.Common.{rules, take, ◌∙◌}
use Rattle.vault_core_run_laws.specs.KeyRuns.{plans_at}
use Rattle.vault_core_runs.proofs.Making.{MakesSteps-err}
use Rattle.vault_core_runs.proofs.OverKeys.{may_go_on, front_rises, done_key, stopped_key}
use Rattle.vault_core_runs.proofs.pages.run_page.Goals as goal

pub run_key-requires-clause-may : goal.run_key-requires-clause-may
run_key-requires-clause-may g c = λ h.
    let h0 = c.loop-key.invariant.leaves.honest h in
    (may_go_on (g.K.Kept.vault c.args.keeper.now) (g.K.Kept.vault c.loop-key.keeper) c.args.run.now.bucket c.args.run.now.at (take c.loop-key.key-index c.args.keys.now) c.args.counts.now c.loop-key.counts
    (c.requires.may h0) (front_rises c.args.keys.now c.loop-key.key-index (c.requires.rising h0)) (c.loop-key.invariant.makes h)).0

pub run_key-requires-clause-given : goal.run_key-requires-clause-given
run_key-requires-clause-given g c = λ h.
    let h0 = c.loop-key.invariant.leaves.honest h in
    (may_go_on (g.K.Kept.vault c.args.keeper.now) (g.K.Kept.vault c.loop-key.keeper) c.args.run.now.bucket c.args.run.now.at (take c.loop-key.key-index c.args.keys.now) c.args.counts.now c.loop-key.counts
    (c.requires.may h0) (front_rises c.args.keys.now c.loop-key.key-index (c.requires.rising h0)) (c.loop-key.invariant.makes h)).1 ∙ c.requires.given h0

pub loop-key-preserved : goal.loop-key-preserved
loop-key-preserved g c = record {
  leaves = record { honest = λ h. c.loop-key.invariant.leaves.honest (c.run_key.ensures.leaves.honest h); counted = search rules };
  makes = λ h.
      let h1 = c.run_key.ensures.leaves.honest h in
      let h0 = c.loop-key.invariant.leaves.honest h1 in
      done_key (g.K.Kept.vault c.args.keeper.now) (g.K.Kept.vault c.loop-key.keeper) (g.K.Kept.vault c.run_key.new.keeper) c.args.run.now.bucket c.args.run.now.at c.args.keys.now c.loop-key.key-index
      c.key-item.result c.args.counts.now c.loop-key.counts c.run_key.new.counts (c.requires.may h0) (c.requires.rising h0) c.loop-key-test.true c.key-item.is (c.loop-key.invariant.makes h1) (c.in_ok-run_key.ensures.makes h);
}

-- the keys before are done, and of this one what was made before it halted
pub returns-in_err-run_key-clause-makes : goal.returns-in_err-run_key-clause-makes
returns-in_err-run_key-clause-makes g c = λ h.
    let h1 = c.run_key.ensures.leaves.honest h in
    let h0 = c.loop-key.invariant.leaves.honest h1 in
    let v = g.K.Kept.vault c.args.keeper.now in
    let v2 = g.K.Kept.vault c.run_key.new.keeper in
    let b = c.args.run.now.bucket in
    let t = c.args.run.now.at in
    let e = c.in_err-run_key.field-0.0 in
    MakesSteps-err c.from_residual.result e v b t (plans_at v b t c.args.keys.now) c.args.counts.now c.run_key.new.counts v2 c.from_residual.ensures.1
    (stopped_key v (g.K.Kept.vault c.loop-key.keeper) v2 b t c.args.keys.now c.loop-key.key-index c.key-item.result e c.args.counts.now c.loop-key.counts c.run_key.new.counts
    (c.requires.may h0) (c.requires.rising h0) c.loop-key-test.true c.key-item.is (c.loop-key.invariant.makes h1) (c.in_err-run_key.ensures.makes h))
