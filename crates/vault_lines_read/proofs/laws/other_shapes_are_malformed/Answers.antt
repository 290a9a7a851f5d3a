use Rattle.vault_lines_read.proofs.LineLemmas.{malformed, malformed-is-filled, shape-is-kept}
use Rattle.vault_lines_read.proofs.laws.other_shapes_are_malformed.Goals as goal

pub returns : goal.returns
returns c = λ line. (λ e. (malformed-is-filled line e, shape-is-kept line e), λ h. malformed line h.0 h.1)
