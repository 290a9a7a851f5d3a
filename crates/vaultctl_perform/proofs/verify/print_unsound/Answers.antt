use Rattle.vaultctl_perform.proofs.verify.print_unsound.Goals as goal

pub returns : goal.returns
returns g c = (c.print_damaged-printed.result, c.status-exit.ensures.outcome, c.print_damaged-printed.ensures)
