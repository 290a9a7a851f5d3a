use Rattle.vaultctl_work.proofs.evidence.LawfulJobWork.carry_out.Goals as goal

pub returns-clause-done : goal.returns-clause-done
returns-clause-done g c = λ h. (c.answer_lawful.ensures.leaves.honest h, (c.answer_lawful.ensures.leaves.same, c.answer_lawful.ensures.ok h))
