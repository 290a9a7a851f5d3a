use Rattle.std.proofs.Common.{None, inl}
use Rattle.std.proofs.lemmas.Result.{IfOk-weaker}
use Rattle.vaultctl_work.proofs.IntakeLemmas.{steady_by}
use Rattle.vaultctl_work.proofs.intake.take_in_at.Goals as goal

pub returns-clause-leaves : goal.returns-clause-leaves
returns-clause-leaves g c =
    let left = c.take_in_and_print-stated.ensures.leaves in
    let s = left.steady in
    record { honest = left.honest; counted = left.counted; steady = steady_by _ _ _ _ _ s.0 s.1 s.3 s.5 }

pub returns-clause-printed : goal.returns-clause-printed
returns-clause-printed g c = IfOk-weaker c.take_in_and_print-stated.result.0 _ _ (λ stated it. inl it) c.take_in_and_print-stated.ensures.printed

pub returns-clause-done : goal.returns-clause-done
returns-clause-done g c = λ h.
    let s = c.take_in_and_print-stated.ensures.leaves.steady in
    (None, c.args.intake.list.now, s.0, s.1, s.2 h, s.3)
