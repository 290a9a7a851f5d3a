use Rattle.vault_audit_laws.proofs.TieLemmas.{are_tied}
use Rattle.vault_audit_laws.proofs.live_tables_are_tied.Goals as goal

pub returns : goal.returns
returns c = are_tied
