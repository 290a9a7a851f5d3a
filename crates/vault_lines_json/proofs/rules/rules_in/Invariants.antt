use Rattle.std.proofs.Common.{◌≡◌, drop}
use Rattle.serde_json.specs.View.{items_view}
use Rattle.vault_lines_json.specs.Rules.{rules_in}
use Rattle.vault_lines_json.proofs.TextsLemmas.{onto}
use Rattle.vault_lines_json.proofs.rules.rules_in.Given as goal

-- the rules so far, and those after them
abbrev pub invariant-loop-item : goal.invariant-loop-item
invariant-loop-item l = rules_in (items_view l.items) ≡ onto l.rules.items (rules_in (items_view (drop l.item-index l.items)))
