use Rattle.vault_core_run_laws.proofs.Reached.{run-extends}
use Rattle.vault_core_run_laws.proofs.histories_are_written_once.Goals as goal

pub returns : goal.returns
returns c = run-extends
