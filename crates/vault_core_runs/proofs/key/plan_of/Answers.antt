use Rattle.std.proofs.Common.{List, sym, subst}
use Rattle.vault_rules.specs.declared.plan.Step.{Step}
use Rattle.vault_core_runs.specs.Making.{HaveCauses}
use Rattle.vault_core_runs.proofs.Begin.{IfOk-weaker}
use Rattle.vault_core_runs.proofs.Causes.{plan_has_causes}
use Rattle.vault_core_runs.proofs.key.plan_of.Goals as goal

pub returns-clause-causes : goal.returns-clause-causes
returns-clause-causes c =
    let rules = c.args.run.now.rules in
    let key = c.args.key.now in
    let hs = c.args.held.now in
    let t = c.args.run.now.at in
    IfOk-weaker _ _ c.plan_key.result
    (λ steps e. subst (λ (l : List Step). HaveCauses rules l) (sym e) (plan_has_causes rules key t hs)) c.plan_key.ensures.plan
