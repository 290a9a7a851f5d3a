use Rattle.std.proofs.Common.{◌∙◌, ap}
use Rattle.vault_core_model.specs.Change.{changed}
use Rattle.vault_core_runs.proofs.One.{MakesAll-one}
use Rattle.vault_core_runs.proofs.change.make_step.Goals as goal

pub returns-clause-makes : goal.returns-clause-makes
returns-clause-makes g c = λ h.
    let v = g.K.Kept.vault c.args.keeper.now in
    let t = c.args.run.now.at in
    let h1 = c.make_change.ensures.leaves.honest h in
    MakesAll-one v _ c.args.run.now.bucket t c.args.key.now c.args.step.now c.args.counts.now c.in-Some.more
    (c.in_ok-change.ensures.room h1)
    (c.in_ok-make_change.ensures.ok ∙ ap (λ u. changed u t c.in_ok-change.change) c.find_change.ensures.leaves.same ∙ ap (λ x. changed v t x) (c.in_ok-change.ensures.is h1))
    (c.in-Some.ensures c.args.key.now)
