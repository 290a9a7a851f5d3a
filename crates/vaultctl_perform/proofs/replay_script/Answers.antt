use Rattle.std.proofs.Common.{refl}
use Rattle.vaultctl_perform.proofs.replay_script.Goals as goal

pub returns-in-Some : goal.returns-in-Some
returns-in-Some g c = record { performed = rw c.in-Some.is c.in_vault.ensures.performed }

pub returns-in-None : goal.returns-in-None
returns-in-None g c =
    let it = c.from_new.ensures.performed in
    record { performed = rw c.in-None.is (it.0, it.1, (refl, it.2)) }
