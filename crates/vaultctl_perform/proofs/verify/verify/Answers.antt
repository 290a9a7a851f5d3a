use Rattle.vaultctl_perform.proofs.StatusLemmas.{either_way}
use Rattle.vaultctl_perform.proofs.verify.verify.Goals as goal

pub returns : goal.returns
returns g c =
    let it = c.print_opened.ensures in
    record { performed = (it.0, it.1, either_way _ _ _ _ c.look-opened.result c.look-opened.ensures.found c.look-opened.ensures.none it.2.0 it.2.1) }
