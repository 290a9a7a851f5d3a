use Rattle.vault_core_outcome.proofs.Machine.{IsStep-is_outcome}
use Rattle.vault_core_outcome.proofs.answers_are_one.Goals as goal

pub returns : goal.returns
returns c = IsStep-is_outcome
