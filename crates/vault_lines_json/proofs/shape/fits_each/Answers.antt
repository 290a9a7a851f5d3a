use Rattle.std.proofs.Common.{◌∙◌}
use Rattle.serde_json.specs.View.{view}
use Rattle.vault_lines_json.proofs.NameLemmas.{fits_each_is}
use Rattle.vault_lines_json.proofs.shape.fits_each.Goals as goal

pub returns : goal.returns
returns c = c.each_fits.ensures ∙ fits_each_is c.args.members.now (view c.args.value.now)
