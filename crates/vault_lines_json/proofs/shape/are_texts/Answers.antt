use Rattle.std.proofs.Common.{◌∙◌}
use Rattle.vault_lines_json.specs.Shape.{is_text}
use Rattle.vault_lines_json.proofs.NameLemmas.{all_items_is}
use Rattle.vault_lines_json.proofs.shape.are_texts.Goals as goal

pub returns : goal.returns
returns c = c.all_texts.ensures ∙ all_items_is is_text c.args.items.now
