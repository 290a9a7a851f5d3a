use Rattle.std.proofs.Common.{arith}
use Rattle.vault_lines_print.proofs.entry_members.put_hex.Goals as goal

pub returns-clause-bytes : goal.returns-clause-bytes
returns-clause-bytes c = λ i. let fits = c.type_inv.bytes i in omega arith
