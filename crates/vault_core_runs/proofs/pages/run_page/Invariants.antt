use Rattle.std.proofs.Common.{take, false}
use Rattle.vault_core_model.specs.Leaves.{Leaves}
use Rattle.vault_core_run_laws.specs.KeyRuns.{plans_at}
use Rattle.vault_core_runs.specs.Making.{MakesAll}
use Rattle.vault_core_runs.proofs.pages.run_page.Given as goal

-- the plans of the keys so far are made
abbrev pub invariant-loop-key : goal.invariant-loop-key
invariant-loop-key g l = record {
  leaves : Leaves g.K.Kept l.fn.keeper l.keeper false;
  makes : g.K.Kept.is_honest l.keeper → MakesAll (g.K.Kept.vault l.fn.keeper) l.run.bucket l.run.at (plans_at (g.K.Kept.vault l.fn.keeper) l.run.bucket l.run.at (take l.key-index l.keys)) l.fn.counts l.counts (g.K.Kept.vault l.keeper);
}
