use Rattle.std.proofs.Common.{◌≡◌, ◌++◌, map, drop}
use Rattle.vault_store_reads.specs.Shown.{name_row}
use Rattle.vault_store_reads.proofs.rows_in_order.buckets.decode_names.Given as goal

-- what was read, and then the rows that are left
abbrev pub invariant-loop-row : goal.invariant-loop-row
invariant-loop-row l = map name_row l.names.items ++ drop l.row-index l.rows ≡ l.rows
