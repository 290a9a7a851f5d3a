use Rattle.vault_core_run_laws.proofs.RunLaws.{other_keys_stay, later_keys_are_others}
use Rattle.vault_core_run_laws.proofs.other_keys_stay.Goals as goal

pub returns-clause-stay : goal.returns-clause-stay
returns-clause-stay c = other_keys_stay

pub returns-clause-others : goal.returns-clause-others
returns-clause-others c = later_keys_are_others
