use Rattle.std.proofs.Common.{◌≡◌, map, take}
use Rattle.vaultctl_job.proofs.reading.copied.Given as goal

abbrev pub invariant-loop-text : goal.invariant-loop-text
invariant-loop-text l = l.words ≡ map (λ t. t.now) (take l.text-index l.texts)
