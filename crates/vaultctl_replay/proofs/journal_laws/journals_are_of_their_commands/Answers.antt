use Rattle.vaultctl_replay.proofs.Notes.{journal-of}
use Rattle.vaultctl_replay.proofs.journal_laws.journals_are_of_their_commands.Goals as goal

pub returns : goal.returns
returns g c = λ j j' old new cs rs. journal-of g.W.Write cs rs j j' old new
