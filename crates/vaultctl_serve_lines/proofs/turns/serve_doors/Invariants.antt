use Rattle.std.proofs.Common.{◌≤◌}
use Rattle.vault_core.specs.Hearing.{HearsAll}
use Rattle.vaultctl_serve.specs.Serving.{ReportsOnce}
use Rattle.vaultctl_serve_lines.specs.Doors.{LogsInTurns, SteppedInTurns}
use Rattle.vaultctl_serve_lines.proofs.turns.serve_doors.Given as goal

-- as many as were counted were taken at most, each made at most one step at its reading, which was heard of, each was logged once, and a failure was reported once
abbrev pub invariant-loop-turn : goal.invariant-loop-turn
invariant-loop-turn g l = record {
  within : l.taken ≤ l.fn.count;
  honest : g.K.Kept.is_honest l.keeper → g.K.Kept.is_honest l.fn.keeper;
  counted : g.K.Kept.count l.fn.keeper ≤ g.K.Kept.count l.keeper;
  reported : ReportsOnce g.T.Reporter.fails (g.K.Kept.count l.fn.keeper) (g.K.Kept.count l.keeper) l.fn.reporter l.reporter;
  logged : LogsInTurns g.D.Doors.tries g.D.Doors.silent g.D.Doors.logs l._turn l.taken l.fn.doors l.doors;
  timely : g.K.Kept.is_honest l.keeper → SteppedInTurns l._turn l.taken (g.D.Doors.tries l.fn.doors) (g.D.Doors.tries l.doors) (g.K.Kept.vault l.fn.keeper) (g.K.Kept.vault l.keeper);
  heard : g.K.Kept.is_honest l.keeper → HearsAll g.H.Hears.going g.H.Hears.hears l.fn.hears l.hears (g.K.Kept.vault l.fn.keeper) (g.K.Kept.vault l.keeper);
}
