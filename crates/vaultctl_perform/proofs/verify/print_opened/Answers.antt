use Rattle.vaultctl_perform.proofs.verify.print_opened.Goals as goal

pub returns-in-Ok : goal.returns-in-Ok
returns-in-Ok g c = rw c.in-Ok.is (c.print_sound.result, c.status.ensures.outcome, (c.print_sound.ensures, tt))

pub returns-in-Err : goal.returns-in-Err
returns-in-Err g c =
    let it = c.print_refused.ensures in
    rw c.in-Err.is (it.0, it.1, (tt, it.2))
