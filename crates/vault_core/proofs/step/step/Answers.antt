use Rattle.vault_core_run_laws.proofs.Reached.{reached-permitted, reached-Worm, step-reached, step-extends}
use Rattle.vault_core_run_laws.proofs.Repeated.{step-begins, step-completes}
use Rattle.vault_core.proofs.step.step.Goals as goal

-- the run to the vault before, and then this step
pub returns-clause-reached : goal.returns-clause-reached
returns-clause-reached g c = λ h before.
    step-reached _ _ c.args.at c.args.who.now c.args.command.now c.carry_out.result before (c.carry_out.ensures.step h)

pub returns-clause-permitted : goal.returns-clause-permitted
returns-clause-permitted g c = λ h before. reached-permitted _ (returns-clause-reached g c h before)

pub returns-clause-worm : goal.returns-clause-worm
returns-clause-worm g c = λ h before. reached-Worm _ (returns-clause-reached g c h before)

pub returns-clause-once : goal.returns-clause-once
returns-clause-once g c = λ h.
    step-extends _ _ c.args.at c.args.who.now c.args.command.now c.carry_out.result (g.K.Kept.sound _ (c.carry_out.ensures.leaves.honest h)) (c.carry_out.ensures.step h)

pub returns-clause-begun : goal.returns-clause-begun
returns-clause-begun g c = λ h.
    step-begins _ _ c.args.at c.args.who.now c.args.command.now c.carry_out.result (g.K.Kept.sound _ (c.carry_out.ensures.leaves.honest h)) (c.carry_out.ensures.step h)

pub returns-clause-completed : goal.returns-clause-completed
returns-clause-completed g c = λ h.
    step-completes _ _ c.args.at c.args.who.now c.args.command.now c.carry_out.result (g.K.Kept.sound _ (c.carry_out.ensures.leaves.honest h)) (c.carry_out.ensures.step h)
