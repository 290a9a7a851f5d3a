use Rattle.std.proofs.Common.{refl}
use Rattle.vaultctl_replay.proofs.RunLemmas.{kept, on_err}
use Rattle.vaultctl_replay.proofs.lines.take_byte.Goals as goal

pub returns-else-byte-eq10-clause-err : goal.returns-else-byte-eq10-clause-err
returns-else-byte-eq10-clause-err g c = on_err c.push_within.result (kept _ _ _ _ _ _ _ refl refl)
