use Rattle.vaultctl_replay.proofs.LastLine.{refused}
use Rattle.vaultctl_replay.proofs.journal_laws.last_lines_are_refused.Goals as goal

pub returns : goal.returns
returns c = refused
