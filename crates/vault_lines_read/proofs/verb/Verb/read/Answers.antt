use Rattle.std.proofs.Common.{◌∙◌}
use Rattle.vault_lines_read.proofs.TableLemmas.{option_map-cond}
use Rattle.vault_lines_read.proofs.verb.Verb.read.Goals as goal

pub returns : goal.returns
returns c = c.named.ensures ∙ simp option_map-cond
