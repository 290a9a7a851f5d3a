use Rattle.vault_audit_schema.proofs.DifferenceLemmas.{stated_of}
use Rattle.vault_audit_schema.proofs.difference.table_difference.Goals as goal

pub returns : goal.returns
returns c = stated_of c.args.schema_version c.args.tables.now c.in_ok-at.at c.table_at.result (rw c.tables_of.ensures.forms at c.in_ok-at.ensures) c.table_at.ensures.at c.table_at.ensures.past
