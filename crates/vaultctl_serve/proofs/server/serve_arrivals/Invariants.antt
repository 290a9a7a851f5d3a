use Rattle.std.proofs.Common.{◌≤◌}
use Rattle.vault_core.specs.Hearing.{HearsAll}
use Rattle.vaultctl_serve.specs.Account.{LogsExactly}
use Rattle.vaultctl_serve.specs.Serving.{ReportsOnce, SteppedOnTime}
use Rattle.vaultctl_serve.proofs.server.serve_arrivals.Given as goal

-- n tries to take a connection made at most n steps, each at its reading; each was heard of, a failure was reported once, and n entries were logged
abbrev pub invariant-loop : goal.invariant-loop
invariant-loop g l = record {
  honest : g.K.Kept.is_honest l.keeper → g.K.Kept.is_honest l.fn.keeper;
  counted : g.K.Kept.count l.fn.keeper ≤ g.K.Kept.count l.keeper;
  reported : ReportsOnce g.T.Reporter.fails (g.K.Kept.count l.fn.keeper) (g.K.Kept.count l.keeper) l.fn.reporter l.reporter;
  logged : LogsExactly g.A.Arrivals.silent g.A.Arrivals.logs l.counter l.fn.arrivals l.arrivals;
  timely : g.K.Kept.is_honest l.keeper → SteppedOnTime l.counter (g.A.Arrivals.tries l.fn.arrivals) (g.A.Arrivals.tries l.arrivals) (g.K.Kept.vault l.fn.keeper) (g.K.Kept.vault l.keeper);
  heard : g.K.Kept.is_honest l.keeper → HearsAll g.H.Hears.going g.H.Hears.hears l.fn.hears l.hears (g.K.Kept.vault l.fn.keeper) (g.K.Kept.vault l.keeper);
}
