use Rattle.vault_core_laws.proofs.Telescope.{days_joined}
use Rattle.vault_core_laws.proofs.days_add_up.Goals as goal

pub returns : goal.returns
returns c = days_joined
