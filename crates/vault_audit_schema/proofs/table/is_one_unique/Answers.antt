use Rattle.std.proofs.Common.{rules, arith}
use Rattle.vault_audit_schema.proofs.CompareLemmas.{singleton}
use Rattle.vault_audit_schema.proofs.table.is_one_unique.Goals as goal

pub returns-in-len1 : goal.returns-in-len1
returns-in-len1 c = singleton c.args.uniques.now c.only-item.result c.args.places.now c.eq.result (omega arith) (omega arith) c.only-item.is (search rules)
