use Rattle.vault_store_model.proofs.KeptLemmas.{kept_changed}
use Rattle.vault_store_model.proofs.changes.changed_vaults_are_kept.Goals as goal

pub returns : goal.returns
returns c = kept_changed
