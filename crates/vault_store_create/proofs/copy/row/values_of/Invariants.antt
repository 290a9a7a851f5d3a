use Rattle.std.proofs.Common.{◌≡◌, map, take}
use Rattle.sqlite_value.specs.Value.{owned}
use Rattle.vault_store_create.proofs.copy.row.values_of.Given as goal

abbrev pub invariant-loop-at : goal.invariant-loop-at
invariant-loop-at l = map (λ v. owned v) l.values.items ≡ take l.at l.row
