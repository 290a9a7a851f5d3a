use Rattle.std.proofs.Common.{◌≡◌, map, take}
use Rattle.std.specs.Prelude.{All}
use Rattle.serde_json.specs.View.{view}
use Rattle.vault_lines_reply.specs.ReplyLine.{rule_value}
use Rattle.vault_lines_reply.specs.SpelledRule.{IsSpelledRule}
use Rattle.vault_lines_reply.proofs.rule_value.rule_values.Given as goal

-- the rules so far
abbrev pub invariant-loop-rule : goal.invariant-loop-rule
invariant-loop-rule l = record {
  values : map view l.list.items ≡ map rule_value (take l.rule-index l.rules);
  spelled : All IsSpelledRule (take l.rule-index l.rules);
}
