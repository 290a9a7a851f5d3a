use Rattle.std.proofs.Common.{◌∙◌}
use Rattle.vault_store_reads.proofs.QueryLemmas.{if_shown}
use Rattle.vault_store_reads.specs.Shown.{id_row}
use Rattle.vault_store_reads.proofs.OrderedListLemmas.{map_once}
use Rattle.vault_store_reads.proofs.StatedLemmas.{same_id}
use Rattle.vault_store_reads.proofs.rows_in_order.ids.find_older.Goals as goal

pub returns-clause-value : goal.returns-clause-value
returns-clause-value g c clean = if_shown c.decode_ids.result c.decode_ids.ensures.ok (λ ids stated v was.
    map_once id_row same_id ids.items _ ((rw c.deref.ensures.value at stated) ∙ c.in_ok-rows.ensures.rows clean v was))

pub returns-clause-memory : goal.returns-clause-memory
returns-clause-memory g c well v was = c.decode_ids.ensures.memory (rw c.deref.ensures.value (c.in_ok-rows.ensures.readable well.clean v was))
