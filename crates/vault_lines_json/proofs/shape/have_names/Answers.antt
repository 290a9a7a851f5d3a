use Rattle.std.proofs.Common.{◌∙◌}
use Rattle.vault_lines_json.proofs.NameLemmas.{have_names_is}
use Rattle.vault_lines_json.proofs.shape.have_names.Goals as goal

pub returns : goal.returns
returns c = c.all_named.ensures ∙ have_names_is c.args.members.now c.args.object.now.entries
