use Rattle.vault_core_evidence.proofs.LawfulRuns.{reached-Lawful}
use Rattle.vault_core_evidence.proofs.laws.reached_vaults_are_lawful.Goals as goal

pub returns : goal.returns
returns c = reached-Lawful
