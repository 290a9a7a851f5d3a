use Rattle.vault_store_model.proofs.ChangeLemmas.{rows_stated}
use Rattle.vault_store_model.proofs.changes.edited_tables_have_the_changed_vault.Goals as goal

pub returns : goal.returns
returns c = rows_stated
