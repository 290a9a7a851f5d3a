use Rattle.vault_core_evidence.proofs.ShownLaws.{shown-last}
use Rattle.vault_core_evidence.proofs.laws.no_moment_is_after_the_last.Goals as goal

pub returns : goal.returns
returns c = shown-last
