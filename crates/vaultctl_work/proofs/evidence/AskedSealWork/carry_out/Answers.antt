use Rattle.vaultctl_work.proofs.evidence.AskedSealWork.carry_out.Goals as goal

pub returns-clause-done : goal.returns-clause-done
returns-clause-done g c = λ h. (c.answer_seal.ensures.leaves.honest h, (c.answer_seal.ensures.leaves.same, c.answer_seal.ensures.ok h))
