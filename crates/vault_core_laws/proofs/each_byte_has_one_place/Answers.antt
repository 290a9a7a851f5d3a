use Rattle.vault_core_laws.proofs.Balance.{one_place}
use Rattle.vault_core_laws.proofs.each_byte_has_one_place.Goals as goal

pub returns : goal.returns
returns c = one_place
