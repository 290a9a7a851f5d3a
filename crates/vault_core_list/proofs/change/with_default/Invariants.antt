use Rattle.std.proofs.Common.{◌≡◌, map, take}
use Rattle.vault_core_model.specs.Change.{with_default}
use Rattle.vault_core_list.proofs.change.with_default.Given as goal

-- the buckets so far
abbrev pub invariant-loop-bucket : goal.invariant-loop-bucket
invariant-loop-bucket l = l.list.items ≡ map (with_default l.name l.default) (take l.bucket-index l.buckets)
