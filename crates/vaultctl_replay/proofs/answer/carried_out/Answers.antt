use Rattle.vaultctl_replay.proofs.answer.carried_out.Goals as goal

-- the reply of the step is the one that is heard of, and its line is made
pub returns-clause-heard : goal.returns-clause-heard
returns-clause-heard g c = let step = c.step-reply in (step.result, step.ensures.step, step.ensures.leaves.counted, c.hear.ensures, c.stated.ensures)
