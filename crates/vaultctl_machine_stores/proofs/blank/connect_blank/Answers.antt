use Rattle.std.proofs.Common.{ap, ◌∙◌, arith}
use Rattle.vaultctl_machine_stores.proofs.blank.connect_blank.Goals as goal

pub returns-in-Ok-clause-empty : goal.returns-in-Ok-clause-empty
returns-in-Ok-clause-empty g c clean tree low =
    ap (λ trees. trees tree) (c.in-Ok.ensures.trees clean)
    ∙ c.in_ok-store.ensures.empty (omega (arith, clean, c.in-Ok.ensures.clean)) tree low
