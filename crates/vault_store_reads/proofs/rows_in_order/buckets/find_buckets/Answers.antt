use Rattle.std.proofs.Common.{◌∙◌}
use Rattle.vault_store_reads.proofs.QueryLemmas.{if_shown}
use Rattle.vault_store_reads.specs.Shown.{name_row}
use Rattle.vault_store_reads.proofs.OrderedListLemmas.{map_once}
use Rattle.vault_store_reads.proofs.StatedLemmas.{same_name}
use Rattle.vault_store_reads.proofs.rows_in_order.buckets.find_buckets.Goals as goal

pub returns-clause-value : goal.returns-clause-value
returns-clause-value g c clean = if_shown c.decode_names.result c.decode_names.ensures.ok (λ names stated v was.
    map_once name_row same_name names.items _ ((rw c.deref.ensures.value at stated) ∙ c.in_ok-rows.ensures.rows clean v was))

pub returns-clause-memory : goal.returns-clause-memory
returns-clause-memory g c well v was = c.decode_names.ensures.memory (rw c.deref.ensures.value (c.in_ok-rows.ensures.readable well.clean v was))
