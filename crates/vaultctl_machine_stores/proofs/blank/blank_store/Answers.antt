use Rattle.std.proofs.Common.{ap, ◌∙◌}
use Rattle.sqlite_trees.proofs.Doubt.{clean_of}
use Rattle.vaultctl_machine_stores.proofs.blank.blank_store.Goals as goal

pub returns-in-Ok-create-clause-empty : goal.returns-in-Ok-create-clause-empty
returns-in-Ok-create-clause-empty g c clean tree low =
    let made = c.in-Ok-create.ensures in
    ap (λ trees. trees tree) made.ready.clean ∙ made.empty (clean_of _ clean) tree low
