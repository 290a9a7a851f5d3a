use Rattle.vault_store_model.proofs.OrderLemmas.{edit_ignores}
use Rattle.vault_store_model.proofs.changes.edits_ignore_order.Goals as goal

pub returns : goal.returns
returns c = edit_ignores
