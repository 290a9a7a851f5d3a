use Rattle.vault_core_laws.proofs.Balance.{moved, conserved}
use Rattle.vault_core_laws.proofs.moves_balance.Goals as goal

pub returns-clause-moved : goal.returns-clause-moved
returns-clause-moved c = moved

pub returns-clause-conserved : goal.returns-clause-conserved
returns-clause-conserved c = conserved
