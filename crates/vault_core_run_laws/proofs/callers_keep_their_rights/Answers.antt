use Rattle.vault_core_run_laws.proofs.Reached.{run-callers}
use Rattle.vault_core_run_laws.proofs.callers_keep_their_rights.Goals as goal

pub returns : goal.returns
returns c = run-callers
