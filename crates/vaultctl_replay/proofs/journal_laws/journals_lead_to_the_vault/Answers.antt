use Rattle.vaultctl_replay.proofs.Leads.{lead}
use Rattle.vaultctl_replay.proofs.journal_laws.journals_lead_to_the_vault.Goals as goal

pub returns : goal.returns
returns g c = lead g.K.Kept c.changes_lead_nowhere_else.ensures c.input_has_one_reading.ensures c.last_lines_are_refused.ensures g.W.Write
