use Rattle.vaultctl_work.proofs.intake.IntakeWork.carry_out.Goals as goal

pub returns-clause-printed : goal.returns-clause-printed
returns-clause-printed g c = (c.take_in_list.ensures.printed, c.take_in_list.ensures.reader, c.take_in_list.ensures.device)

pub returns-clause-done : goal.returns-clause-done
returns-clause-done g c = λ h. (c.take_in_list.ensures.leaves.honest h, c.take_in_list.ensures.done h)
