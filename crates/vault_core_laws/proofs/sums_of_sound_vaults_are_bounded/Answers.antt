use Rattle.vault_core_laws.proofs.Bounds.{items-bounded, items-begun_by}
use Rattle.vault_core_laws.proofs.sums_of_sound_vaults_are_bounded.Goals as goal

pub returns-clause-bounded : goal.returns-clause-bounded
returns-clause-bounded c = items-bounded

pub returns-clause-begun : goal.returns-clause-begun
returns-clause-begun c = items-begun_by
