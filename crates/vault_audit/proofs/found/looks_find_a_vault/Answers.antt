use Rattle.vault_audit.proofs.FoundLemmas.{found_spelled, found_sums}
use Rattle.vault_audit.proofs.found.looks_find_a_vault.Goals as goal

pub returns-clause-spelled : goal.returns-clause-spelled
returns-clause-spelled c = found_spelled

pub returns-clause-sums : goal.returns-clause-sums
returns-clause-sums c = found_sums
