use Rattle.std.proofs.Common.{◌∙◌}
use Rattle.vault_lines_json.proofs.NameLemmas.{is_among_is}
use Rattle.vault_http_target.proofs.query.is_among.Goals as goal

pub returns : goal.returns
returns c = c.is_any.ensures ∙ is_among_is c.args.name.now c.args.names.now
