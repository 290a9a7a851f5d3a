use Rattle.vault_core_run_laws.proofs.Repeating.{cut_runs_add_up, runs_repeat}
use Rattle.vault_core_run_laws.proofs.runs_repeat.Goals as goal

pub returns-clause-cut : goal.returns-clause-cut
returns-clause-cut c = cut_runs_add_up

pub returns-clause-done : goal.returns-clause-done
returns-clause-done c = runs_repeat
