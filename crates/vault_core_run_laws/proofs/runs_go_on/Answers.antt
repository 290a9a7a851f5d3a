use Rattle.vault_core_run_laws.proofs.RunLaws.{runs_go_on, key_runs_go_on}
use Rattle.vault_core_run_laws.proofs.runs_go_on.Goals as goal

pub returns-clause-keys : goal.returns-clause-keys
returns-clause-keys c = runs_go_on

pub returns-clause-key : goal.returns-clause-key
returns-clause-key c = key_runs_go_on
