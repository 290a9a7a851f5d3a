use Rattle.std.proofs.Common.{List, ap, ◌∙◌}
use Rattle.std.proofs.lemmas.Result.{IfOk-weaker}
use Rattle.vault_rules.specs.declared.rule.Rule.{Rule}
use Rattle.vault_rules.specs.KeyPlan.{key_plan}
use Rattle.vault_rules.proofs.KeyRepeat.{key_plan_repeats}
use Rattle.vault_rules.proofs.plan.plan_key.Goals as goal

pub returns-clause-repeats : goal.returns-clause-repeats
returns-clause-repeats c in_order =
    let key = c.args.key.now in
    let hs = c.args.held.now in
    let t = c.args.now in
    IfOk-weaker c.steps_of.result _ _
    (λ steps e. key_plan_repeats c.args.rules.now key hs t steps.items c.as_slice.ensures.set in_order (e ∙ ap (λ (l : List Rule). key_plan l key hs t) c.as_slice.ensures.rules))
    c.steps_of.ensures
