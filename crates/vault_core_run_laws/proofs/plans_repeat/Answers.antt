use Rattle.vault_core_run_laws.proofs.Repeating.{vault_plans_repeat}
use Rattle.vault_core_run_laws.proofs.plans_repeat.Goals as goal

pub returns : goal.returns
returns c = vault_plans_repeat
