use Rattle.vault_lines_read.proofs.StampedLemmas.{command-is-spelled, spelled-is-command}
use Rattle.vault_lines_read.proofs.stamped.stamped_commands_are_spelled.Goals as goal

pub returns : goal.returns
returns c = λ moment line t. (command-is-spelled moment line t, spelled-is-command moment line t)
