use Rattle.std.proofs.Common.{Ok, sym, subst}
use Rattle.vault_core_model.specs.declared.reply.Reply.TheVariants.{Stopped}
use Rattle.vault_core_model.specs.declared.reply.Stop.{Stop}
use Rattle.vault_core_model.specs.Plan.{plan}
use Rattle.vault_core_model.specs.RunOutcome.{AnswersRun}
use Rattle.vault_core_runs.proofs.Answering.{answers_done, answers_stopped}
use Rattle.vault_core_runs.proofs.run.run_bucket.Goals as goal

pub returns-in-Ok-clause-step : goal.returns-in-Ok-clause-step
returns-in-Ok-clause-step g c = λ h.
    let v = g.K.Kept.vault c.args.keeper.now in
    let b = c.args.run.now.bucket in
    let t = c.args.run.now.at in
    answers_done v b t (plan v b t) c.run_pages.new.counts (g.K.Kept.vault c.run_pages.new.keeper) (c.in-Ok.ensures.makes h)

pub returns-in-Err-clause-step : goal.returns-in-Err-clause-step
returns-in-Err-clause-step g c = λ h.
    let v = g.K.Kept.vault c.args.keeper.now in
    let v2 = g.K.Kept.vault c.run_pages.new.keeper in
    let b = c.args.run.now.bucket in
    let t = c.args.run.now.at in
    let y = c.run_pages.new.counts in
    subst (λ (s : Stop). AnswersRun (Ok (plan v b t)) v b t (Stopped y.changes s) v2) (sym c.stop_of.ensures.reported)
    (answers_stopped v b t (plan v b t) c.in-Err.halt y v2 (c.in-Err.ensures.makes h))
