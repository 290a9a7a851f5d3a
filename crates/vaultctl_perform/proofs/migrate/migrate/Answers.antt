use Rattle.vaultctl_perform.proofs.StatusLemmas.{either_way}
use Rattle.vaultctl_perform.proofs.migrate.migrate.Goals as goal

pub returns-clause-performed : goal.returns-clause-performed
returns-clause-performed g c =
    let it = c.print_copied.ensures in
    (it.0, it.1, either_way _ _ _ _ c.copy-copied.result c.copy-copied.ensures.copied c.copy-copied.ensures.none it.2.0 it.2.1)
