use Rattle.std.proofs.Common.{refl}
use Rattle.vaultctl_replay.proofs.RunLemmas.{kept}
use Rattle.vaultctl_replay.proofs.answer.answer_line.Goals as goal

pub returns-in_default-clause-err : goal.returns-in_default-clause-err
returns-in_default-clause-err g c = kept _ _ _ _ _ _ _ refl refl
