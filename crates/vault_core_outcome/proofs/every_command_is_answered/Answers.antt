use Rattle.vault_core_outcome.proofs.Machine.{IsStep-outcome, IsRun-outcome}
use Rattle.vault_core_outcome.proofs.every_command_is_answered.Goals as goal

pub returns-clause-step : goal.returns-clause-step
returns-clause-step c = IsStep-outcome

pub returns-clause-run : goal.returns-clause-run
returns-clause-run c = IsRun-outcome
