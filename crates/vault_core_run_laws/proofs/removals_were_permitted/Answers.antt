use Rattle.vault_core_run_laws.proofs.Reached.{reached-permitted}
use Rattle.vault_core_run_laws.proofs.removals_were_permitted.Goals as goal

pub returns : goal.returns
returns c = reached-permitted
