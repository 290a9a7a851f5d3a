use Rattle.std.proofs.Common.{◌≡◌, map, take}
use Rattle.vault_core_list.specs.Moves.{longer_if}
use Rattle.vault_core_list.proofs.bucket.longer.Given as goal

-- the histories so far
abbrev pub invariant-loop-history : goal.invariant-loop-history
invariant-loop-history l = l.list.items ≡ map (longer_if l.bucket l.tenure) (take l.history-index l.histories)
