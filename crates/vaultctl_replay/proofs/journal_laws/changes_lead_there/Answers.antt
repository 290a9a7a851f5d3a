use Rattle.vaultctl_replay.proofs.Runs.{lead-there}
use Rattle.vaultctl_replay.proofs.journal_laws.changes_lead_there.Goals as goal

pub returns : goal.returns
returns c = lead-there
