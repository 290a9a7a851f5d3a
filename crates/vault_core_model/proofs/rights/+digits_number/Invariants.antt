use Rattle.std.proofs.Common.{length}
use Rattle.vault_core_model.proofs.rights.+digits_number.Given as goal

abbrev pub decreases-digits_number : goal.decreases-digits_number
decreases-digits_number l = length l.rights.now
