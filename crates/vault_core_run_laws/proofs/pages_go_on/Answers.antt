use Rattle.vault_core_run_laws.proofs.RunLaws.{pages_go_on}
use Rattle.vault_core_run_laws.proofs.pages_go_on.Goals as goal

pub returns : goal.returns
returns c = pages_go_on
