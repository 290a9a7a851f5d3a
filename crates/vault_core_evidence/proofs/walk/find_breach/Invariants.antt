use Rattle.std.proofs.Common.{false}
use Rattle.vault_core_model.specs.Leaves.{LeavesSame}
use Rattle.vault_core_evidence.specs.Parts.{range_breach}
use Rattle.vault_core_evidence.proofs.ByIds.{IsLeft}
use Rattle.vault_core_evidence.proofs.ShownByIds.{IsShown}
use Rattle.vault_core_evidence.proofs.walk.find_breach.Given as goal

-- the first breach is the first of those that are left, and the last moment is that of those that are left or were seen
abbrev pub invariant-loop-place : goal.invariant-loop-place
invariant-loop-place g l = record {
  leaves : LeavesSame g.K.Kept l.fn.keeper l.keeper false;
  left : g.K.Kept.is_honest l.keeper → IsLeft (g.K.Kept.vault l.fn.keeper) l.fn.after l.fn.most l.seen l.holders l.place (range_breach (g.K.Kept.vault l.fn.keeper) l.fn.after l.fn.most);
  shown : g.K.Kept.is_honest l.keeper → IsShown (g.K.Kept.vault l.fn.keeper) l.fn.after l.fn.most l.place l.shown;
}
