use Rattle.std.proofs.Common.{◌≡◌, length, map}
use Rattle.std.specs.Prelude.{max, fold}
use Rattle.vault_core_evidence.proofs.shown.last_set.Given as goal

-- the last of all is that of those that are left, and of what was seen
abbrev pub invariant-loop-rest : goal.invariant-loop-rest
invariant-loop-rest l = fold max l.initial.last (map (λ s. s.at) l.initial.rest) ≡ fold max l.last (map (λ s. s.at) l.rest)

-- the settings that are left
abbrev pub decreases-loop-rest : goal.decreases-loop-rest
decreases-loop-rest l = length l.rest
