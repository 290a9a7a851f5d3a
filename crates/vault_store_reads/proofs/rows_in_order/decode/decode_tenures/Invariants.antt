use Rattle.std.proofs.Common.{◌≡◌, ◌++◌, List, map, drop}
use Rattle.vault_audit_model.specs.declared.rows.TenureRow.{TenureRow}
use Rattle.vault_audit_model.specs.Rows.{tenure_row}
use Rattle.vault_store_reads.proofs.rows_in_order.decode.decode_tenures.Given as goal

-- what was read, and then the rows that are left
abbrev pub invariant-loop-row : goal.invariant-loop-row
invariant-loop-row l = (xs : List TenureRow) × (map tenure_row xs ++ drop l.row-index l.rows ≡ l.rows) × (l.tenures ≡ map (λ x. x.tenure) xs)
