use Rattle.std.proofs.Common.{◌∙◌}
use Rattle.vaultctl_perform.proofs.StatusLemmas.{made_or_none}
use Rattle.vaultctl_perform.proofs.init.init.Goals as goal

pub returns : goal.returns
returns g c =
    let it = made_or_none _ _ c.make-made.result c.make-made.ensures.made c.make-made.ensures.none in
    record { performed = (it.0, c.print_made.ensures ∙ it.1, it.2) }
