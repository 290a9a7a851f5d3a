use Rattle.vault_store_model.proofs.ChangeLemmas.{rows_made}
use Rattle.vault_store_model.proofs.changes.edits_make_the_changed_vault.Goals as goal

pub returns : goal.returns
returns c = rows_made
