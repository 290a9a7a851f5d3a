use Rattle.std.proofs.Common.{rules}
use Rattle.vault_store_apply.proofs.parts.given.delete_external_if.Goals as goal

pub returns-then-not-external-clause-part : goal.returns-then-not-external-clause-part
returns-then-not-external-clause-part g c = rw c.if-not-external.true (search rules)
