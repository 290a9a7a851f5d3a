use Rattle.vault_store_model.proofs.BesideLemmas.{beside_heads}
use Rattle.vault_store_model.proofs.changes.edits_make_all_rows_but_heads.Goals as goal

pub returns : goal.returns
returns c = beside_heads
