use Rattle.std.proofs.Common.{rules, sym, ap, subst, ◌∙◌, List, Ok, [], IsTrue}
use Rattle.std.specs.Prelude.{unwrap_or}
use Rattle.vault_rules.specs.Rules.{is_rule_set}
use Rattle.vault_rules.specs.declared.rule.Rule.{Rule}
use Rattle.vault_core_model.specs.Vault.{rules_of}
use Rattle.vault_core_runs.proofs.Begin.{MayRun-with, plan_without, planned}
use Rattle.vault_core_runs.proofs.run.find_run.Goals as goal

pub returns-in_default-clause-found : goal.returns-in_default-clause-found
returns-in_default-clause-found g c = λ h.
    let v = g.K.Kept.vault c.args.keeper.now in
    let h1 = c.rules.ensures.leaves.honest h in
    planned v c.args.at c.args.who.now c.args.command.now c.in_ok-find_access.field-0 (c.in_ok-find_access.ensures.found h1)
    ∙ ap Ok (plan_without v c.args.command.now.bucket c.args.at c.in_ok-find_access.field-0.bucket
    (g.K.Kept.sound _ (c.find_access.ensures.leaves.honest h1)) (c.in_ok-find_access.ensures.in_time h1) (c.in_ok-find_access.ensures.there h1)
    (ap (λ u. rules_of u c.args.command.now.bucket) (sym c.find_access.ensures.leaves.same) ∙ sym (c.in_ok-rules.ensures.value h) ∙ c.in_default.is))

pub returns-clause-found : goal.returns-clause-found
returns-clause-found g c = λ h.
    let IsSet : List Rule → Type 0 = λ rules. IsTrue (is_rule_set rules) in
    let v = g.K.Kept.vault c.args.keeper.now in
    let h1 = c.rules.ensures.leaves.honest h in
    let is = ap (λ u. rules_of u c.args.command.now.bucket) (sym c.find_access.ensures.leaves.same) ∙ sym (c.in_ok-rules.ensures.value h) ∙ c.in-Some.is in (
      record {
        over = c.in_ok-clone.ensures.cases;
        now = search rules;
        given = ap (λ o. unwrap_or o []) is;
        may = MayRun-with v c.args.command.now.bucket c.args.at c.in_ok-find_access.field-0.bucket
            (g.K.Kept.sound _ (c.find_access.ensures.leaves.honest h1)) (c.in_ok-find_access.ensures.in_time h1) (c.in_ok-find_access.ensures.there h1)
            c.in-Some.rules (subst IsSet c.rules-2.view_is c.rules-2.invariant) is;
      },
      planned v c.args.at c.args.who.now c.args.command.now c.in_ok-find_access.field-0 (c.in_ok-find_access.ensures.found h1),
    )
