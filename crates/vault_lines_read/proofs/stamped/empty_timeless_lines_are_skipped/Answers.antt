use Rattle.vault_lines_read.proofs.StampedLemmas.{skip-empty, skipped-is-empty}
use Rattle.vault_lines_read.proofs.stamped.empty_timeless_lines_are_skipped.Goals as goal

pub returns : goal.returns
returns c = λ moment line. (skipped-is-empty moment line, skip-empty moment line)
