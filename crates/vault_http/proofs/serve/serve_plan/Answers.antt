use Rattle.std.proofs.lemmas.Result.{on_ok_weaker, IfErr-weaker}
use Rattle.vault_http.specs.Calls.{StepsHeard}
use Rattle.vault_http.proofs.Counted.{plan_steady}
use Rattle.vault_http.proofs.Serves.{plan_served, plan_left}
use Rattle.vault_http.proofs.serve.serve_plan.Goals as goal

pub returns-clause-ok : goal.returns-clause-ok
returns-clause-ok g c = λ h.
    on_ok_weaker c.conclude.result (λ d. plan_served (StepsHeard g.K.Kept c.args.keeper.now c.conclude.new.keeper g.H.Hears.hears) c.args.planned.shown c.args.planned.plan (g.K.Kept.vault c.args.keeper.now, c.args.hears.now) (g.K.Kept.vault c.conclude.new.keeper, c.conclude.new.hears) _ _ _ _ c.in_ok-judged.judged c.in_ok-judged.ensures.command (rw c.in_ok-judged.ensures.reported at c.send_interim-stated.ensures.ok) d) (c.conclude.ensures.ok h)

pub returns-clause-err : goal.returns-clause-err
returns-clause-err g c = λ h.
    IfErr-weaker c.conclude.result _ _ (λ e d. plan_left (StepsHeard g.K.Kept c.args.keeper.now c.conclude.new.keeper g.H.Hears.hears) c.args.planned.shown c.args.planned.plan (g.K.Kept.vault c.args.keeper.now, c.args.hears.now) (g.K.Kept.vault c.conclude.new.keeper, c.conclude.new.hears) _ _ _ _ _ e c.in_ok-judged.judged c.in_ok-judged.ensures.command (rw c.in_ok-judged.ensures.reported at c.send_interim-stated.ensures.ok) d) (c.conclude.ensures.err h)

pub returns-clause-leaves : goal.returns-clause-leaves
returns-clause-leaves g c = record {
  honest = c.conclude.ensures.leaves.honest;
  counted = c.conclude.ensures.leaves.counted;
  steady = plan_steady _ c.conclude.result c.args.planned.plan.at c.args.planned.shown c.args.planned.plan.headers.caller _ _ _ _ c.in_ok-judged.judged c.args.planned.plan.headers.waits (g.W.Write.contents c.args.writer.now) (g.W.Write.contents c.send_interim-stated.new.writer) (g.W.Write.contents c.conclude.new.writer)
      (rw c.in_ok-judged.ensures.reported at c.send_interim-stated.ensures.ok) c.conclude.ensures.leaves.steady;
}
