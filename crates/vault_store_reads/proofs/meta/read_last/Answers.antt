use Rattle.std.proofs.Common.{ap}
use Rattle.vault_store_reads.proofs.meta.read_last.Goals as goal

pub returns-clause-value : goal.returns-clause-value
returns-clause-value g c clean v was = ap (λ m. m.last) (c.in_ok-meta.ensures.value clean v was)
