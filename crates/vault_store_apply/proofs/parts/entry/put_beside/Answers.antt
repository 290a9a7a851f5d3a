use Rattle.vault_store_edits.proofs.TransactionLemmas.{on_ok_here}
use Rattle.vault_store_edits.proofs.ReadyLemmas.{part_then}
use Rattle.vault_store_apply.proofs.parts.entry.put_beside.Goals as goal

pub returns-clause-part : goal.returns-clause-part
returns-clause-part g c = part_then _ c.in_ok-put_note_if_given.ensures.part c.set_sums_of.ensures.part

pub returns-clause-typed : goal.returns-clause-typed
returns-clause-typed g c = on_ok_here c.set_sums_of.result c.in_ok-put_note_if_given.ensures.typed
