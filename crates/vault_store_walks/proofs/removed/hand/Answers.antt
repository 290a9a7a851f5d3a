use Rattle.vault_store_reads.proofs.WantLemmas.{not_wrong}
use Rattle.vault_store_walks.proofs.removed.hand.Goals as goal

pub returns-in-Err-clause-memory : goal.returns-in-Err-clause-memory
returns-in-Err-clause-memory g c stated = not_wrong c.in-Err.misread _ c.unread.ensures.memory (λ wrong. c.in-Err.ensures.wrong wrong stated.0 stated.2 stated.1)
