use Rattle.std.proofs.Common.{◌≡◌, ◌<◌, ◌+◌, ℕ, List, get_or, length, sym, subst, take, rules}
use Rattle.std.specs.Prelude.{All}
use Rattle.std.proofs.lemmas.Grind.{common_steps}
use Rattle.std.proofs.lemmas.List.{take_more}
use Rattle.std.proofs.lemmas.List.Elements.{All-push}
use Rattle.vault_rules.specs.declared.rule.Rule.{Rule}
use Rattle.vault_lines_reply.specs.SpelledRule.{IsSpelledRule}
use Rattle.vault_lines_reply.proofs.rule_value.rule_values.Goals as goal

one-more : (listed : List Rule) (i : ℕ) (r : Rule) → i < length listed → r ≡ get_or listed i r → All IsSpelledRule (take i listed) → IsSpelledRule r → All IsSpelledRule (take (i + 1) listed)
one-more listed i r within is before spelled =
    subst (All IsSpelledRule) (sym (take_more listed i r within)) (All-push IsSpelledRule (take i listed) (get_or listed i r) before (subst IsSpelledRule is spelled))

pub loop-rule-preserved : goal.loop-rule-preserved
loop-rule-preserved c = record {
  values = search (rules, take_more, common_steps);
  spelled = one-more c.args.rules.now c.loop-rule.rule-index c.rule-item.result c.loop-rule-test.true c.rule-item.is c.loop-rule.invariant.spelled c.in_ok-rule_value.ensures.spelled;
}
