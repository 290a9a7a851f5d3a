use Rattle.std.proofs.Common.{Option, subst}
use Rattle.vault_core_model.specs.RunOutcome.{planned_run}
use Rattle.vault_core_runs.specs.declared.change.BucketRun.{BucketRun}
use Rattle.vault_core_runs.specs.Replies.{Begins}
use Rattle.vault_core_runs.proofs.Answering.{answers_as_judged}
use Rattle.vault_core_runs.proofs.run.run_rules.Goals as goal

pub returns-in-Ok-Some-clause-step : goal.returns-in-Ok-Some-clause-step
returns-in-Ok-Some-clause-step g c = λ h.
    let v = g.K.Kept.vault c.args.keeper.now in
    let b = c.args.command.now.bucket in
    let t = c.args.at in
    let judged = planned_run v t c.args.who.now c.args.command.now in
    let begins = subst (λ (o : Option BucketRun). Begins o v b t judged) c.in-Ok-Some.field-0-is (c.in-Ok-Some.ensures.found (c.run_bucket.ensures.leaves.honest h)) in
    answers_as_judged v (g.K.Kept.vault c.find_run.new.keeper) (g.K.Kept.vault c.run_bucket.new.keeper) b t c.in-Ok-Some.run' judged c.run_bucket.result
    c.find_run.ensures.leaves.same begins (c.run_bucket.ensures.step h)
