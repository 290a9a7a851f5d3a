use Rattle.sqlite.specs.Held.{state}
use Rattle.vaultctl_machine.proofs.FoundLemmas.{was_clean}
use Rattle.vaultctl_machine.proofs.MigrationLemmas.{kept_is_spelled, new_was_clean}
use Rattle.vaultctl_machine.proofs.migration.copy.Goals as goal

pub returns-clause-clean : goal.returns-clause-clean
returns-clause-clean g c clean = was_clean _ _ _ c.migrate-outcome.ensures.old_crash clean

pub returns-clause-found : goal.returns-clause-found
returns-clause-found g c = kept_is_spelled _ _ _ _ _ c.migrate-outcome.result c.migrate-outcome.ensures.spelled c.migrate-outcome.ensures.vault

pub returns-clause-clean_new : goal.returns-clause-clean_new
returns-clause-clean_new g c = new_was_clean c.migrate-outcome.result _ (λ conn. state g.S.Store conn) _ c.migrate-outcome.ensures.harmless

pub returns-clause-refused : goal.returns-clause-refused
returns-clause-refused g c read written = c.migrate-outcome.ensures.healthy read written
