use Rattle.std.proofs.Common.{Err, refl}
use Rattle.vault_core_model.proofs.Counts.{no_less, rose, stays}
use Rattle.vault_http.specs.declared.fault.ServeFault.TheVariants as faults
use Rattle.vault_http.proofs.Counted.{reply_sent, step_steady}
use Rattle.vault_http.proofs.carrying.answer.Goals as goal

-- the reply of the step is the one that is heard of, and there is no room for its answer
pub returns-in_default-clause-carried : goal.returns-in_default-clause-carried
returns-in_default-clause-carried g c = λ h.
    let step = c.step-reply in
    (step.result, ((step.ensures.step h, rose _ _ _ step.ensures.leaves.counted), c.hear.ensures), refl {a = g.W.Write.contents c.args.writer.now})

-- the same, and its answer was sent, or a beginning of it
pub returns-clause-carried : goal.returns-clause-carried
returns-clause-carried g c = λ h.
    let step = c.step-reply in
    let a = g.W.Write.contents c.args.writer.now in
    let b = g.W.Write.contents c.send.new.writer in (
      step.result,
      ((step.ensures.step h, rose _ _ _ step.ensures.leaves.counted), c.hear.ensures),
      reply_sent c.send.result c.args.context.now.at c.args.command.now c.args.context.now.shown step.result a b c.drops.result c.in-Ok.bytes.items c.as_slice.result.now c.drops.ensures c.in-Ok.ensures c.as_slice.ensures.value c.send.ensures.ok c.send.ensures.err,
    )

pub returns-in_default-clause-leaves : goal.returns-in_default-clause-leaves
returns-in_default-clause-leaves g c =
    let step = c.step-reply in
    let a = g.W.Write.contents c.args.writer.now in
    record {
      honest = step.ensures.leaves.honest;
      counted = no_less _ _ _ step.ensures.leaves.counted;
      steady = step_steady _ (Err faults.Memory) c.args.context.now.at c.args.context.now.shown c.args.context.now.caller _ _ _ _ c.args.command.now step.result a a step.ensures.step (stays _ _ _ step.ensures.leaves.counted) (refl {a = a});
    }

pub returns-clause-leaves : goal.returns-clause-leaves
returns-clause-leaves g c =
    let step = c.step-reply in
    let a = g.W.Write.contents c.args.writer.now in
    let b = g.W.Write.contents c.send.new.writer in
    record {
      honest = step.ensures.leaves.honest;
      counted = no_less _ _ _ step.ensures.leaves.counted;
      steady = step_steady _ c.send.result c.args.context.now.at c.args.context.now.shown c.args.context.now.caller _ _ _ _ c.args.command.now step.result a b step.ensures.step (stays _ _ _ step.ensures.leaves.counted)
          (reply_sent c.send.result c.args.context.now.at c.args.command.now c.args.context.now.shown step.result a b c.drops.result c.in-Ok.bytes.items c.as_slice.result.now c.drops.ensures c.in-Ok.ensures c.as_slice.ensures.value c.send.ensures.ok c.send.ensures.err);
    }
