use Rattle.vault_lines_read.proofs.StampedLemmas.{malformed, malformed-is-filled, shape-is-kept}
use Rattle.vault_lines_read.proofs.stamped.other_timeless_shapes_are_malformed.Goals as goal

pub returns : goal.returns
returns c = λ moment line. (λ e. (malformed-is-filled moment line e, shape-is-kept moment line e), λ h. malformed moment line h.0 h.1)
