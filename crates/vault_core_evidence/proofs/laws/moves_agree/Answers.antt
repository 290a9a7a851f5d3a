use Rattle.vault_core_evidence.proofs.MovesRuns.{reached-MovesAgree}
use Rattle.vault_core_evidence.proofs.laws.moves_agree.Goals as goal

pub returns : goal.returns
returns c = reached-MovesAgree
