use Rattle.vault_core_run_laws.proofs.Repeated.{run-begins, run-completes}
use Rattle.vault_core_run_laws.proofs.cut_runs_are_completed.Goals as goal

pub returns-clause-begun : goal.returns-clause-begun
returns-clause-begun c = run-begins

pub returns-clause-done : goal.returns-clause-done
returns-clause-done c = run-completes
