use Rattle.vault_store_reads.proofs.OpenLemmas.{only_reads}
use Rattle.vault_store_reads.proofs.rows_in_order.reads.read_last_tenure.Goals as goal

pub returns-clause-read : goal.returns-clause-read
returns-clause-read g c = only_reads c.find_last_tenure.ensures.read
