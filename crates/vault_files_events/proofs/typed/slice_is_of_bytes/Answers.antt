use Rattle.std.proofs.Common.{arith}
use Rattle.vault_files_events.proofs.typed.slice_is_of_bytes.Goals as goal

pub returns : goal.returns
returns c = λ i. let fits = c.type_inv.bytes i in omega arith
