use Rattle.std.proofs.Common.{◌≡◌, ◌++◌, List, map, drop}
use Rattle.vault_audit_model.specs.declared.rows.SettingRow.{SettingRow}
use Rattle.vault_audit_model.specs.Rows.{setting_row}
use Rattle.vault_store_reads.proofs.rows_in_order.decode.decode_settings.Given as goal

-- what was read, and then the rows that are left
abbrev pub invariant-loop-row : goal.invariant-loop-row
invariant-loop-row l = (xs : List SettingRow) × (map setting_row xs ++ drop l.row-index l.rows ≡ l.rows) × (l.settings ≡ map (λ x. x.setting) xs)
