use Rattle.std.proofs.Common.{refl, inl, sym, ◌∙◌, arith}
use Rattle.vaultctl_serve.proofs.LogLemmas.{Logs-all, Logs-more, Logs-none}
use Rattle.vaultctl_serve.proofs.ReportLemmas.{reports-then}
use Rattle.vaultctl_serve.proofs.ServingLemmas.{HearsAll-more, HearsAll-none, OnTime-append, OnTime-none, OnTime-stepped, Stepped-more, Stepped-reached, While-all}
use Rattle.vaultctl_serve.proofs.server.serve_arrivals.Goals as goal

pub loop-init : goal.loop-init
loop-init g c =
    record {
      honest = λ h. h;
      counted = omega arith;
      reported = inl (refl, refl);
      logged = Logs-none g.A.Arrivals.silent g.A.Arrivals.logs c.args.arrivals.now;
      timely = λ h. OnTime-none (g.A.Arrivals.tries c.args.arrivals.now) (g.K.Kept.vault c.args.keeper.now);
      heard = λ h. HearsAll-none g.H.Hears.going g.H.Hears.hears c.args.hears.now (g.K.Kept.vault c.args.keeper.now);
    }

-- the steps so far, and then that of this connection
pub loop-preserved : goal.loop-preserved
loop-preserved g c = record {
  honest = λ h. c.loop.invariant.honest (c.serve_watched.ensures.leaves.honest h);
  counted = omega (arith, c.loop.invariant.counted, c.serve_watched.ensures.leaves.counted);
  reported = reports-then g.T.Reporter.fails _ _ _ _ _ _ _ c.faults-since.ensures c.loop.invariant.counted c.serve_watched.ensures.leaves.counted c.loop.invariant.reported c.serve_watched.ensures.reported c.serve_watched.ensures.once;
  logged = Logs-more g.A.Arrivals.silent g.A.Arrivals.logs c.loop.counter _ _ _ c.loop.invariant.logged c.serve_watched.ensures.logged;
  timely = λ h. OnTime-append c.loop.counter 1 _ _ _ _ _ _ (c.loop.invariant.timely (c.serve_watched.ensures.leaves.honest h)) (c.serve_watched.ensures.timely h);
  heard = λ h. HearsAll-more g.H.Hears.going g.H.Hears.hears _ _ _ _ _ _ (c.loop.invariant.heard (c.serve_watched.ensures.leaves.honest h)) (sym c.goes_on.ensures ∙ c.if-not-goes_on.false) (c.serve_watched.ensures.heard h);
}

-- who hears lets no more be carried out
pub returns-then-not-goes_on-clause-stepped : goal.returns-then-not-goes_on-clause-stepped
returns-then-not-goes_on-clause-stepped g c = λ h. Stepped-more c.loop.counter c.args.count _ _ c.loop.auto.counter-end (OnTime-stepped _ _ _ _ _ (c.loop.invariant.timely h))

pub returns-then-not-goes_on-clause-reached : goal.returns-then-not-goes_on-clause-reached
returns-then-not-goes_on-clause-reached g c = λ h before. Stepped-reached _ _ _ (OnTime-stepped _ _ _ _ _ (c.loop.invariant.timely h)) before

-- all were taken
pub returns-clause-stepped : goal.returns-clause-stepped
returns-clause-stepped g c = λ h. Stepped-more c.loop.counter c.args.count _ _ (omega arith) (OnTime-stepped _ _ _ _ _ (c.loop.invariant.timely h))

pub returns-clause-reached : goal.returns-clause-reached
returns-clause-reached g c = λ h before. Stepped-reached _ _ _ (OnTime-stepped _ _ _ _ _ (c.loop.invariant.timely h)) before

pub returns-clause-timely : goal.returns-clause-timely
returns-clause-timely g c = λ h. While-all _ c.loop.counter c.args.count _ _ _ _ (omega arith) (c.loop.invariant.timely h)

pub returns-clause-logged : goal.returns-clause-logged
returns-clause-logged g c = Logs-all _ _ _ c.loop.counter c.args.count _ _ (omega arith) c.loop.invariant.logged
