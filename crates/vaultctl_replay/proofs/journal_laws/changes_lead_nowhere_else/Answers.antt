use Rattle.vaultctl_replay.proofs.Runs.{lead-nowhere-else}
use Rattle.vaultctl_replay.proofs.journal_laws.changes_lead_nowhere_else.Goals as goal

pub returns : goal.returns
returns c = lead-nowhere-else c.answers_are_one.ensures
