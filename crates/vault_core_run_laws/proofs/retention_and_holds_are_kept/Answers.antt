use Rattle.vault_core_run_laws.proofs.Reached.{reached-Worm}
use Rattle.vault_core_run_laws.proofs.retention_and_holds_are_kept.Goals as goal

pub returns : goal.returns
returns c = reached-Worm
