use Rattle.std.proofs.Common.{false, [], Ok, Some}
use Rattle.vault_core_model.specs.Leaves.{Leaves}
use Rattle.vault_core_runs.specs.Ranges.{GoesOn}
use Rattle.vault_core_runs.proofs.pages.run_pages.Given as goal

-- the run has gone on from before all keys to this place
abbrev pub invariant-loop : goal.invariant-loop
invariant-loop g l = record {
  leaves : Leaves g.K.Kept l.fn.keeper l.keeper false;
  done : g.K.Kept.is_honest l.keeper → GoesOn (Ok (Some l.place)) (g.K.Kept.vault l.fn.keeper) l.run.bucket l.run.at [] l.fn.counts l.counts (g.K.Kept.vault l.keeper);
}
