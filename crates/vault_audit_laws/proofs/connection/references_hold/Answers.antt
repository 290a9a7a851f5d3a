use Rattle.vault_audit_laws.proofs.TieLemmas.{are_tied}
use Rattle.vault_audit_laws.proofs.connection.references_hold.Goals as goal

pub returns : goal.returns
returns g c = λ is_open ours. are_tied c.args.schema_version _ (c.tables_obey_their_schema.ensures is_open).0 ours
