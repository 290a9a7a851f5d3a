use Rattle.std.proofs.Common.{◌≡◌, take, false}
use Rattle.std.specs.List.{AllByRecursion}
use Rattle.vault_core_model.specs.Leaves.{LeavesSame}
use Rattle.vault_files_events.specs.Counts.{counts}
use Rattle.vault_files_events.specs.EventsText.{asked_in, event_rows}
use Rattle.vault_files_events.specs.Typed.{IsTyped}
use Rattle.vault_files_events.proofs.walk.take_each.Given as goal

-- the records of the entries before this place were taken and counted
abbrev pub invariant-loop-place : goal.invariant-loop-place
invariant-loop-place g l = record {
  leaves : LeavesSame g.K.Kept l.fn.keeper l.keeper false;
  taken : g.K.Kept.is_honest l.keeper → g.T.Taker.took l.fn.taker (event_rows (asked_in l.fn.before (take l.place (g.K.Kept.vault l.fn.keeper).histories))) l.taker;
  typed : g.K.Kept.is_honest l.keeper → AllByRecursion (λ h. IsTyped h.entry) (take l.place (g.K.Kept.vault l.fn.keeper).histories);
  tallied : g.K.Kept.is_honest l.keeper → l.counted ≡ counts (asked_in l.fn.before (take l.place (g.K.Kept.vault l.fn.keeper).histories));
}
