use Rattle.std.proofs.Common.{arith, inl, inr, refl}
use Rattle.std.proofs.lemmas.Result.{IfOk-weaker}
use Rattle.vaultctl_work.proofs.IntakeLemmas.{refusal_stated, taken_then}
use Rattle.vaultctl_work.proofs.intake.take_in_read.Goals as goal

pub returns-in_default-clause-leaves : goal.returns-in_default-clause-leaves
returns-in_default-clause-leaves g c = record { honest = λ h. h; counted = omega arith; steady = inl refl }

pub returns-in_default-clause-printed : goal.returns-in_default-clause-printed
returns-in_default-clause-printed g c = IfOk-weaker c.print_refusal-refused.result _ _ (λ stated it. refusal_stated _ stated _ _ it) c.print_refusal-refused.ensures.ok

pub returns-in_default-clause-done : goal.returns-in_default-clause-done
returns-in_default-clause-done g c = λ h. inr (IfOk-weaker c.print_refusal-refused.result _ _ (λ stated it. it.0) c.print_refusal-refused.ensures.ok, refl)

pub returns-clause-done : goal.returns-clause-done
returns-clause-done g c = λ h. inl (taken_then c.args.asked.now c.take_in_at.result _ _ _ _ c.args.asked.now.at c.in-Some.at c.in-Some.ensures (c.take_in_at.ensures.done h))
