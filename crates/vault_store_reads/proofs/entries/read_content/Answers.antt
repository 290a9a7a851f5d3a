use Rattle.vault_store_reads.proofs.OpenLemmas.{only_reads}
use Rattle.vault_store_reads.proofs.entries.read_content.Goals as goal

pub returns-clause-read : goal.returns-clause-read
returns-clause-read g c = only_reads c.find_content.ensures.read
