use Rattle.vault_core_evidence.proofs.BreachLaws.{breach-lawful}
use Rattle.vault_core_evidence.proofs.FirstBreach.{first-departments, first-lawful, first-moves, first-registrar, lawful-first}
use Rattle.vault_core_evidence.proofs.DepartmentRuns.{reached-Departments, reached-registrar}
use Rattle.vault_core_evidence.proofs.LawfulRuns.{reached-Lawful}
use Rattle.vault_core_evidence.proofs.MovesRuns.{reached-MovesAgree}
use Rattle.vault_core_evidence.proofs.laws.breaches_are_decided.Goals as goal

pub returns-clause-one : goal.returns-clause-one
returns-clause-one c = breach-lawful

pub returns-clause-lawful : goal.returns-clause-lawful
returns-clause-lawful c = first-lawful

pub returns-clause-moves : goal.returns-clause-moves
returns-clause-moves c = first-moves

pub returns-clause-departments : goal.returns-clause-departments
returns-clause-departments c = first-departments

pub returns-clause-registrar : goal.returns-clause-registrar
returns-clause-registrar c = first-registrar

pub returns-clause-none : goal.returns-clause-none
returns-clause-none c = lawful-first

pub returns-clause-reached : goal.returns-clause-reached
returns-clause-reached c = λ v reached. lawful-first v (reached-Lawful v reached) (reached-MovesAgree v reached) (reached-Departments v reached) (reached-registrar v reached)
