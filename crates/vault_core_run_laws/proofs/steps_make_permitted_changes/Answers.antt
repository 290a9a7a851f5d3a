use Rattle.vault_core_run_laws.proofs.StepChanges.{IsStep-leads}
use Rattle.vault_core_run_laws.proofs.steps_make_permitted_changes.Goals as goal

pub returns : goal.returns
returns c = IsStep-leads
