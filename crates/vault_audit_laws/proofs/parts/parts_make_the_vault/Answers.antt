use Rattle.vault_audit_laws.proofs.PartLemmas.{spelled}
use Rattle.vault_audit_laws.proofs.parts.parts_make_the_vault.Goals as goal

pub returns : goal.returns
returns c = spelled
