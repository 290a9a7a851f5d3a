use Rattle.std.proofs.Common.{◌≡◌, map, take}
use Rattle.vault_core_list.proofs.find.names.Given as goal

-- the names so far
abbrev pub invariant-loop-bucket : goal.invariant-loop-bucket
invariant-loop-bucket l = l.list.items ≡ map (λ b. b.name) (take l.bucket-index l.buckets)
