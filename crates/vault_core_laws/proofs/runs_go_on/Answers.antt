use Rattle.vault_core_laws.proofs.Runs.{IsRun-append}
use Rattle.vault_core_laws.proofs.runs_go_on.Goals as goal

pub returns : goal.returns
returns c = IsRun-append
