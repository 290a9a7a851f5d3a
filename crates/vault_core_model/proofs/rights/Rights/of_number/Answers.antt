use Rattle.std.proofs.Common.{arith}
use Rattle.vault_core_model.proofs.RightLemmas.{of_number}
use Rattle.vault_core_model.proofs.rights.Rights.of_number.Goals as goal

pub returns : goal.returns
returns c = rw c.with_digits.ensures (of_number c.args.number (omega (arith, c.if-number-ge-NUMBERS.false)))
