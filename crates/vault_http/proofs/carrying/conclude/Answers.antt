use Rattle.std.proofs.Common.{inr, refl}
use Rattle.std.proofs.lemmas.Result.{IfErr-weaker, on_ok_weaker}
use Rattle.vault_core.specs.Hearing.{timed}
use Rattle.vault_http.specs.Calls.{StepsHeard}
use Rattle.vault_http.proofs.Serves.{carried_left, carried_ok, deny_judged}
use Rattle.vault_http.proofs.carrying.conclude.Goals as goal

pub returns-in-Ok-clause-ok : goal.returns-in-Ok-clause-ok
returns-in-Ok-clause-ok g c = λ h.
    rw c.in-Ok.is (carried_ok (StepsHeard g.K.Kept c.args.keeper.now c.finish.new.keeper g.H.Hears.hears) c.args.context.now.at c.args.context.now.shown c.args.context.now.caller c.in-Ok.command (g.K.Kept.vault c.args.keeper.now, c.args.hears.now) (g.K.Kept.vault c.finish.new.keeper, c.finish.new.hears) (g.W.Write.contents c.args.writer.now) (g.W.Write.contents c.finish.new.writer) c.finish.result (c.finish.ensures.carried h))

pub returns-in-Ok-clause-err : goal.returns-in-Ok-clause-err
returns-in-Ok-clause-err g c = λ h.
    rw c.in-Ok.is (carried_left (StepsHeard g.K.Kept c.args.keeper.now c.finish.new.keeper g.H.Hears.hears) c.args.context.now.at c.args.context.now.shown c.args.context.now.caller c.in-Ok.command (g.K.Kept.vault c.args.keeper.now, c.args.hears.now) (g.K.Kept.vault c.finish.new.keeper, c.finish.new.hears) (g.W.Write.contents c.args.writer.now) (g.W.Write.contents c.finish.new.writer) c.finish.result (c.finish.ensures.carried h))

pub returns-in-Ok-clause-once : goal.returns-in-Ok-clause-once
returns-in-Ok-clause-once g c = λ h.
    let made = c.finish.ensures.carried h in
    inr (c.args.context.now.at, c.args.context.now.caller, c.in-Ok.command, made.0, refl, made.1.0.0)

pub returns-in-Ok-clause-heard : goal.returns-in-Ok-clause-heard
returns-in-Ok-clause-heard g c = λ h.
    let made = c.finish.ensures.carried h in
    inr (timed c.args.context.now.at c.args.context.now.caller c.in-Ok.command, made.0, refl, made.1.0.0, made.1.1)

pub returns-in-Err-clause-ok : goal.returns-in-Err-clause-ok
returns-in-Err-clause-ok g c = λ h.
    rw c.in-Err.is (on_ok_weaker c.deny.result (λ d. (d.0, (refl, d.1), d.2)) c.deny.ensures.ok)

pub returns-in-Err-clause-err : goal.returns-in-Err-clause-err
returns-in-Err-clause-err g c = λ h.
    rw c.in-Err.is (IfErr-weaker c.deny.result _ _ (λ e d. deny_judged (StepsHeard g.K.Kept c.args.keeper.now c.args.keeper.now g.H.Hears.hears) e c.args.context.now.at c.args.context.now.shown c.args.context.now.caller c.in-Err.refusal (g.K.Kept.vault c.args.keeper.now, c.args.hears.now) (g.K.Kept.vault c.args.keeper.now, c.args.hears.now) (g.W.Write.contents c.args.writer.now) (g.W.Write.contents c.deny.new.writer) refl d) c.deny.ensures.err)
