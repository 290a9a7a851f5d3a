use Rattle.vault_core_run_laws.proofs.Stored.{Sound-stands_once, Sound-conserved, Sound-all_conserved}
use Rattle.vault_core_run_laws.proofs.bytes_are_conserved.Goals as goal

pub returns-clause-each : goal.returns-clause-each
returns-clause-each c = Sound-stands_once

pub returns-clause-total : goal.returns-clause-total
returns-clause-total c = Sound-conserved

pub returns-clause-vault : goal.returns-clause-vault
returns-clause-vault c = Sound-all_conserved
