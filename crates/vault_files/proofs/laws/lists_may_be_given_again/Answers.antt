use Rattle.vault_files.proofs.Lists.{given-again, given-still}
use Rattle.vault_files.proofs.laws.lists_may_be_given_again.Goals as goal

pub returns : goal.returns
returns c = record { ids = given-again; nothing = given-still }
