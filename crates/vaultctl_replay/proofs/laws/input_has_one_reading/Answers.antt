use Rattle.vaultctl_replay.proofs.LineLemmas.{Splits-one}
use Rattle.vaultctl_replay.proofs.laws.input_has_one_reading.Goals as goal

pub returns : goal.returns
returns c = Splits-one
