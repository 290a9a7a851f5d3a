use Rattle.vault_core_run_laws.proofs.Reached.{reached-Sound}
use Rattle.vault_core_run_laws.proofs.reached_vaults_are_sound.Goals as goal

pub returns : goal.returns
returns c = reached-Sound
