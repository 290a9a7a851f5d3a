use Rattle.vault_core_evidence.proofs.Past.{past_changed, run-past}
use Rattle.vault_core_evidence.proofs.laws.the_past_stays.Goals as goal

pub returns-clause-events : goal.returns-clause-events
returns-clause-events c = run-past

pub returns-clause-changes : goal.returns-clause-changes
returns-clause-changes c = past_changed
