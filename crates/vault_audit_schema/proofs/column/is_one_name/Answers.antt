use Rattle.std.proofs.Common.{rules, arith}
use Rattle.vault_audit_schema.proofs.CompareLemmas.{singleton}
use Rattle.vault_audit_schema.proofs.column.is_one_name.Goals as goal

pub returns-in-len1 : goal.returns-in-len1
returns-in-len1 c = singleton c.args.names.now c.only-item.result c.args.name.now c.eq.result (omega arith) (omega arith) c.only-item.is (search rules)
