use Rattle.std.proofs.Common.{◌<◌, List, length, rules, subst, take_all}
use Rattle.std.proofs.lemmas.List.{take_more}
use Rattle.vault_core_model.specs.declared.command.Timed.{Timed}
use Rattle.vault_core_laws.proofs.Balance.{conserved, moved, one_place}
use Rattle.vault_core_laws.proofs.Telescope.{days_joined}
use Rattle.vault_core_run_laws.proofs.Once.{extends_itself}
use Rattle.vault_core_run_laws.proofs.Repeated.{run-begins, run-completes}
use Rattle.vault_core_run_laws.proofs.Reached.{reached-permitted, reached-Worm, run-extends}
use Rattle.vault_core_run_laws.proofs.Stored.{Sound-stands_once, Sound-conserved, Sound-all_conserved}
use Rattle.vault_core.specs.StepByStep.{StepByStep}
use Rattle.vault_core.proofs.StepLemmas.{push, honest, is_run, counted, run-reached}
use Rattle.vault_core.proofs.run.run.Goals as goal

-- the commands so far go on by this one
pub loop-timed-preserved : goal.loop-timed-preserved
loop-timed-preserved g c = record {
  so_far = let lt : c.loop-timed.timed-index < length c.args.commands.now = c.loop-timed-test.true in
      rw (take_more c.args.commands.now c.loop-timed.timed-index c.timed-item.result lt, ← c.timed-item.is, c.in_ok-push.ensures.items)
      (push g.K.Kept _ _ _ _ _ c.timed-item.result c.step-reply.result c.loop-timed.invariant.so_far c.step-reply.ensures.step c.step-reply.ensures.leaves);
  room = search rules;
  stated = search rules;
}

-- ---- all commands, and what follows of them

pub returns-clause-each : goal.returns-clause-each
returns-clause-each g c =
    let P : List Timed → Type 0 = λ cs. StepByStep g.K.Kept c.args.keeper.now cs c.loop-timed.replies.items c.loop-timed.keeper in
    subst P (take_all c.loop-timed.timed-index c.args.commands.now c.loop-timed-test.false) c.loop-timed.invariant.so_far

pub returns-clause-leaves : goal.returns-clause-leaves
returns-clause-leaves g c = record {
  honest = honest g.K.Kept _ _ _ _ (returns-clause-each g c);
  counted = counted g.K.Kept _ _ _ _ (returns-clause-each g c);
}

pub returns-clause-run : goal.returns-clause-run
returns-clause-run g c = is_run g.K.Kept _ _ _ _ (returns-clause-each g c)

pub returns-clause-reached : goal.returns-clause-reached
returns-clause-reached g c = λ h before. run-reached _ _ _ _ before (returns-clause-run g c h)

pub returns-in_err-replies-clause-conserved : goal.returns-in_err-replies-clause-conserved
returns-in_err-replies-clause-conserved g c = one_place (g.K.Kept.vault c.args.keeper.now)

pub returns-clause-conserved : goal.returns-clause-conserved
returns-clause-conserved g c = one_place (g.K.Kept.vault c.loop-timed.keeper)

-- ---- the laws of every vault that is reached

pub returns-in_err-replies-clause-permitted : goal.returns-in_err-replies-clause-permitted
returns-in_err-replies-clause-permitted g c = λ h before. reached-permitted _ before

pub returns-clause-permitted : goal.returns-clause-permitted
returns-clause-permitted g c = λ h before. reached-permitted _ (returns-clause-reached g c h before)

pub returns-in_err-replies-clause-worm : goal.returns-in_err-replies-clause-worm
returns-in_err-replies-clause-worm g c = λ h before. reached-Worm _ before

pub returns-clause-worm : goal.returns-clause-worm
returns-clause-worm g c = λ h before. reached-Worm _ (returns-clause-reached g c h before)

pub returns-in_err-replies-clause-once : goal.returns-in_err-replies-clause-once
returns-in_err-replies-clause-once g c = λ h. extends_itself _

pub returns-clause-once : goal.returns-clause-once
returns-clause-once g c = λ h. run-extends _ _ _ _ (g.K.Kept.sound _ ((returns-clause-leaves g c).honest h)) (returns-clause-run g c h)

pub returns-in_err-replies-clause-stored : goal.returns-in_err-replies-clause-stored
returns-in_err-replies-clause-stored g c = λ h. Sound-stands_once _ (g.K.Kept.sound _ h)

pub returns-clause-stored : goal.returns-clause-stored
returns-clause-stored g c = λ h. Sound-stands_once _ (g.K.Kept.sound _ h)

pub returns-in_err-replies-clause-total : goal.returns-in_err-replies-clause-total
returns-in_err-replies-clause-total g c = λ h dept. Sound-conserved _ dept (g.K.Kept.sound _ h)

pub returns-clause-total : goal.returns-clause-total
returns-clause-total g c = λ h dept. Sound-conserved _ dept (g.K.Kept.sound _ h)

pub returns-in_err-replies-clause-moved : goal.returns-in_err-replies-clause-moved
returns-in_err-replies-clause-moved g c = λ h. moved _ (g.K.Kept.sound _ h)

pub returns-clause-moved : goal.returns-clause-moved
returns-clause-moved g c = λ h. moved _ (g.K.Kept.sound _ h)

pub returns-in_err-replies-clause-balanced : goal.returns-in_err-replies-clause-balanced
returns-in_err-replies-clause-balanced g c = λ h. conserved _ (g.K.Kept.sound _ h)

pub returns-clause-balanced : goal.returns-clause-balanced
returns-clause-balanced g c = λ h. conserved _ (g.K.Kept.sound _ h)

pub returns-in_err-replies-clause-whole : goal.returns-in_err-replies-clause-whole
returns-in_err-replies-clause-whole g c = λ h. Sound-all_conserved _ (g.K.Kept.sound _ h)

pub returns-clause-whole : goal.returns-clause-whole
returns-clause-whole g c = λ h. Sound-all_conserved _ (g.K.Kept.sound _ h)

pub returns-in_err-replies-clause-days : goal.returns-in_err-replies-clause-days
returns-in_err-replies-clause-days g c = λ h t late. days_joined _ t (g.K.Kept.sound _ h) late

pub returns-clause-days : goal.returns-clause-days
returns-clause-days g c = λ h t late. days_joined _ t (g.K.Kept.sound _ h) late

pub returns-clause-begun : goal.returns-clause-begun
returns-clause-begun g c = λ h. run-begins _ _ _ _ (g.K.Kept.sound _ ((returns-clause-leaves g c).honest h)) (returns-clause-run g c h)

pub returns-clause-completed : goal.returns-clause-completed
returns-clause-completed g c = λ h. run-completes _ _ _ _ (g.K.Kept.sound _ ((returns-clause-leaves g c).honest h)) (returns-clause-run g c h)
