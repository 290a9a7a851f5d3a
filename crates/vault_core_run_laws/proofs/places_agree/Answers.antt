use Rattle.vault_core_run_laws.proofs.Noncurrent.{places_agree}
use Rattle.vault_core_run_laws.proofs.places_agree.Goals as goal

pub returns : goal.returns
returns c = places_agree
