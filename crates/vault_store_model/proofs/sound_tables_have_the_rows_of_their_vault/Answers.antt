use Rattle.vault_store_model.proofs.RowsLemmas.{sound_is_rows}
use Rattle.vault_store_model.proofs.sound_tables_have_the_rows_of_their_vault.Goals as goal

pub returns : goal.returns
returns c = sound_is_rows
