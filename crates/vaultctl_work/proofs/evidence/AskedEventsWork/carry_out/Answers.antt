use Rattle.vaultctl_work.proofs.evidence.AskedEventsWork.carry_out.Goals as goal

pub returns-clause-done : goal.returns-clause-done
returns-clause-done g c = λ h. (c.print_events.ensures.leaves.honest h, (c.print_events.ensures.leaves.same, c.print_events.ensures.text h))
