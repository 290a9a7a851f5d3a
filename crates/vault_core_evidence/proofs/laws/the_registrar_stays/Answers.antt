use Rattle.vault_core_evidence.proofs.DepartmentRuns.{reached-registrar}
use Rattle.vault_core_evidence.proofs.laws.the_registrar_stays.Goals as goal

pub returns : goal.returns
returns c = reached-registrar
