use Rattle.vault_core_laws.proofs.Unmoved.{none_received, none_handed, all_stays, moves-changed}
use Rattle.vault_core_laws.proofs.bytes_stay_until_a_move.Goals as goal

pub returns-clause-received : goal.returns-clause-received
returns-clause-received c = none_received

pub returns-clause-handed : goal.returns-clause-handed
returns-clause-handed c = none_handed

pub returns-clause-conserved : goal.returns-clause-conserved
returns-clause-conserved c = all_stays

pub returns-clause-moves : goal.returns-clause-moves
returns-clause-moves c = moves-changed
