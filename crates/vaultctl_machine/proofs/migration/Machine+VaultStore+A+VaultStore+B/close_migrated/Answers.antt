use Rattle.std.proofs.Common.{◌∷◌, ◌++◌, [], true, ap, ◌∙◌}
use Rattle.vaultctl_machine.proofs.migration.«Machine+VaultStore+A+VaultStore+B».close_migrated.Goals as goal

pub returns-clause-closed : goal.returns-clause-closed
returns-clause-closed g c = c.let_go_of_source.ensures.closed ∙ ap (λ xs. xs ++ (c.args.migrated.source, true) ∷ []) c.close_copy.ensures.closed
