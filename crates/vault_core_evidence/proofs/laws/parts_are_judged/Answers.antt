use Rattle.vault_core_evidence.proofs.JudgedParts.{last-lawful, next-lawful, part-agrees, part-clean}
use Rattle.vault_core_evidence.proofs.LawfulStays.{run-lawful}
use Rattle.vault_core_evidence.proofs.laws.parts_are_judged.Goals as goal

pub returns-clause-whole : goal.returns-clause-whole
returns-clause-whole c = λ v all. all

pub returns-clause-next : goal.returns-clause-next
returns-clause-next c = next-lawful

pub returns-clause-last : goal.returns-clause-last
returns-clause-last c = last-lawful

pub returns-clause-agree : goal.returns-clause-agree
returns-clause-agree c = part-agrees

pub returns-clause-stays : goal.returns-clause-stays
returns-clause-stays c = run-lawful

pub returns-clause-clean : goal.returns-clause-clean
returns-clause-clean c = part-clean
