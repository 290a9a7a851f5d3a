use Rattle.std.proofs.Common.{◌∙◌}
use Rattle.vault_lines_json.specs.Shape.{is_rule}
use Rattle.vault_lines_json.proofs.NameLemmas.{all_items_is}
use Rattle.vault_lines_json.proofs.shape.are_rules.Goals as goal

pub returns : goal.returns
returns c = c.all_rules.ensures ∙ all_items_is is_rule c.args.items.now
