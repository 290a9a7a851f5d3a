use Rattle.std.proofs.Common.{length}
use Rattle.vault_core_model.proofs.rights.+with_digits.Given as goal

abbrev pub decreases-with_digits : goal.decreases-with_digits
decreases-with_digits l = length l.rights.now
