use Rattle.vault_audit_laws.proofs.Uniqueness.{same_vault_as, same_vault}
use Rattle.vault_audit_laws.proofs.one_vault.Goals as goal

pub returns-clause-versioned : goal.returns-clause-versioned
returns-clause-versioned c = same_vault_as

pub returns-clause-filed : goal.returns-clause-filed
returns-clause-filed c = same_vault
