use Rattle.vault_store_reads.proofs.OpenLemmas.{only_reads}
use Rattle.vault_store_walks.proofs.held.read_bucket_held.Goals as goal

pub returns-clause-read : goal.returns-clause-read
returns-clause-read g c = only_reads c.find_bucket_held.ensures.read
