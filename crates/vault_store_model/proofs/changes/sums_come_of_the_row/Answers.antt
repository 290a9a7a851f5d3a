use Rattle.vault_store_model.proofs.MoveSums.{sums_handed, sums_received}
use Rattle.vault_store_model.proofs.SumLemmas.{sums_admitted, sums_ended}
use Rattle.vault_store_model.proofs.changes.sums_come_of_the_row.Goals as goal

pub returns-clause-admitted : goal.returns-clause-admitted
returns-clause-admitted c = sums_admitted

pub returns-clause-removed : goal.returns-clause-removed
returns-clause-removed c = sums_ended

pub returns-clause-handed_over : goal.returns-clause-handed_over
returns-clause-handed_over c = sums_handed

pub returns-clause-received : goal.returns-clause-received
returns-clause-received c = sums_received
