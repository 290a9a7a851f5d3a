use Rattle.std.proofs.Common.{◌∙◌}
use Rattle.vault_store_reads.proofs.QueryLemmas.{if_shown}
use Rattle.vault_store_reads.specs.Shown.{key_row}
use Rattle.vault_store_reads.proofs.OrderedListLemmas.{map_once}
use Rattle.vault_store_reads.proofs.StatedLemmas.{same_key}
use Rattle.vault_store_reads.proofs.rows_in_order.reads.read_keys.Goals as goal

pub returns-clause-value : goal.returns-clause-value
returns-clause-value g c clean = if_shown c.decode_keys.result c.decode_keys.ensures.ok (λ keys stated v was.
    map_once key_row same_key keys.items _ ((rw c.deref.ensures.value at stated) ∙ c.in_ok-rows.ensures.rows clean v was))

pub returns-clause-memory : goal.returns-clause-memory
returns-clause-memory g c well v was = c.decode_keys.ensures.memory (rw c.deref.ensures.value (c.in_ok-rows.ensures.readable well.clean v was))
