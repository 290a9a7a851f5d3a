use Rattle.vault_store_edits.proofs.TransactionLemmas.{on_ok_here}
use Rattle.vault_store_apply.proofs.entries.moves.find_number.Goals as goal

pub returns-clause-open : goal.returns-clause-open
returns-clause-open g c clean = on_ok_here c.next_number.result (c.in_ok-moves.ensures.open clean)
