use Rattle.vaultctl_replay.proofs.Unchanged.{unchanged}
use Rattle.vaultctl_replay.proofs.journal_laws.replies_show_changes.Goals as goal

pub returns : goal.returns
returns c = unchanged
