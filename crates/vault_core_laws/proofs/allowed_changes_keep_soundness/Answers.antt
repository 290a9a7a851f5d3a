use Rattle.vault_core_laws.proofs.Soundness.{Sound-changed}
use Rattle.vault_core_laws.proofs.allowed_changes_keep_soundness.Goals as goal

pub returns : goal.returns
returns c = Sound-changed
