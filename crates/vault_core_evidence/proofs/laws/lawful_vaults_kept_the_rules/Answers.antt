use Rattle.vault_core_evidence.proofs.LawfulMeans.{Lawful-permitted, Lawful-Worm}
use Rattle.vault_core_evidence.proofs.laws.lawful_vaults_kept_the_rules.Goals as goal

pub returns-clause-removals : goal.returns-clause-removals
returns-clause-removals c = Lawful-permitted

pub returns-clause-worm : goal.returns-clause-worm
returns-clause-worm c = Lawful-Worm
