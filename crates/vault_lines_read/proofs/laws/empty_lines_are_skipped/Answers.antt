use Rattle.vault_lines_read.proofs.LineLemmas.{skip-empty, skipped-is-empty}
use Rattle.vault_lines_read.proofs.laws.empty_lines_are_skipped.Goals as goal

pub returns : goal.returns
returns c = λ line. (skipped-is-empty line, skip-empty line)
