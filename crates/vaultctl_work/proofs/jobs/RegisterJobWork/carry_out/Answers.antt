use Rattle.vaultctl_work.proofs.jobs.RegisterJobWork.carry_out.Goals as goal

pub returns-clause-done : goal.returns-clause-done
returns-clause-done g c = λ h. (c.print_register.ensures.leaves.honest h, (c.print_register.ensures.leaves.same, c.print_register.ensures.text h))
