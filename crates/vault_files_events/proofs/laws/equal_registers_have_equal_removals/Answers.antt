use Rattle.vault_files_events.proofs.RegisterCells.{same-removals}
use Rattle.vault_files_events.proofs.laws.equal_registers_have_equal_removals.Goals as goal

pub returns : goal.returns
returns c = same-removals
