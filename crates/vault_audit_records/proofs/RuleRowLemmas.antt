-- One row holds one bucket or one rule.
use Rattle.std.proofs.Common.{◌≡◌, sym, ◌∙◌}
use Rattle.sqlite_value.specs.Order.{Row}
use Rattle.vault_audit_model.specs.declared.rows.BucketRow.{BucketRow}
use Rattle.vault_audit_model.specs.declared.rows.RuleRow.{RuleRow}
use Rattle.vault_audit_model.specs.Rows.{bucket_row, rule_row}
use Rattle.vault_audit_model.proofs.SameRows.{same_bucket, same_rule}

pub one_bucket : (row : Row) (x y : BucketRow) → row ≡ bucket_row x → row ≡ bucket_row y → x ≡ y
one_bucket row x y is_x is_y = same_bucket x y (sym is_x ∙ is_y)

pub one_rule : (row : Row) (x y : RuleRow) → row ≡ rule_row x → row ≡ rule_row y → x ≡ y
one_rule row x y is_x is_y = same_rule x y (sym is_x ∙ is_y)
