use Rattle.vault_core_evidence.proofs.DepartmentRuns.{reached-Departments}
use Rattle.vault_core_evidence.proofs.laws.departments_agree.Goals as goal

pub returns : goal.returns
returns c = reached-Departments
