use Rattle.std.proofs.Common.{false}
use Rattle.vault_core_model.specs.Leaves.{LeavesSame}
use Rattle.vault_core_evidence.proofs.Settings.{Left}
use Rattle.vault_core_evidence.proofs.history.later_breach.Given as goal

-- what all break is what those that are left break, after the last one that was looked at
abbrev pub invariant-loop-next : goal.invariant-loop-next
invariant-loop-next g l = record {
  leaves : LeavesSame g.K.Kept l.fn.keeper l.keeper false;
  left : g.K.Kept.is_honest l.keeper → Left (g.K.Kept.vault l.fn.keeper) l.first l.later l.last l.next-index;
}
