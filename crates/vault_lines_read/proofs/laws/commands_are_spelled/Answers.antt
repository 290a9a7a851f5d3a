use Rattle.vault_lines_read.proofs.LineLemmas.{command-is-spelled, spelled-is-command}
use Rattle.vault_lines_read.proofs.laws.commands_are_spelled.Goals as goal

pub returns : goal.returns
returns c = λ line t. (command-is-spelled line t, spelled-is-command line t)
