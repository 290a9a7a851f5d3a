use Rattle.std.proofs.Common.{◌∙◌}
use Rattle.vault_lines_json.proofs.NameLemmas.{are_within_is}
use Rattle.vault_lines_json.proofs.shape.are_within.Goals as goal

pub returns : goal.returns
returns c = c.all_among.ensures ∙ are_within_is c.args.names.now c.args.object.now.entries
