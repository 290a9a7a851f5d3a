use Rattle.std.proofs.Common.{◌≡◌, map, take}
use Rattle.vault_core_model.specs.Change.{with_department}
use Rattle.vault_core_list.proofs.change.with_department.Given as goal

-- the buckets so far
abbrev pub invariant-loop-bucket : goal.invariant-loop-bucket
invariant-loop-bucket l = l.list.items ≡ map (with_department l.name l.dept) (take l.bucket-index l.buckets)
