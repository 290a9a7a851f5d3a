use Rattle.std.proofs.Common.{◌≡◌, ◌++◌, List, map, drop}
use Rattle.vault_audit_model.specs.declared.rows.RuleRow.{RuleRow}
use Rattle.vault_audit_model.specs.Rows.{rule_row}
use Rattle.vault_store_reads.proofs.rows_in_order.decode.decode_each_rule.Given as goal

-- what was read, and then the rows that are left
abbrev pub invariant-loop-row : goal.invariant-loop-row
invariant-loop-row l = (xs : List RuleRow) × (map rule_row xs ++ drop l.row-index l.rows ≡ l.rows) × (l.rules.items ≡ map (λ x. x.rule) xs)
