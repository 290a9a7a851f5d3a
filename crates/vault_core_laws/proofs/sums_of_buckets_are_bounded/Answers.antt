use Rattle.vault_core_laws.proofs.Holdings.{bytes-held, weight-held, bytes-first, weight-first}
use Rattle.vault_core_laws.proofs.sums_of_buckets_are_bounded.Goals as goal

pub returns-clause-bytes : goal.returns-clause-bytes
returns-clause-bytes c = bytes-held

pub returns-clause-weight : goal.returns-clause-weight
returns-clause-weight c = weight-held

pub returns-clause-first_bytes : goal.returns-clause-first_bytes
returns-clause-first_bytes c = bytes-first

pub returns-clause-first_weight : goal.returns-clause-first_weight
returns-clause-first_weight c = weight-first
