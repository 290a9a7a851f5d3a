use Rattle.std.proofs.Common.{drop, false}
use Rattle.vault_core_model.specs.Leaves.{LeavesSame}
use Rattle.vault_core_listing.specs.Walk.{asked_at, filled}
use Rattle.vault_core_listing.proofs.KeyWalk.{IsLeft}
use Rattle.vault_core_listing.proofs.listings.list_key.Given as goal

-- with the entries that are left the page becomes what it is to be
abbrev pub invariant-loop-id : goal.invariant-loop-id
invariant-loop-id g l = record {
  leaves : LeavesSame g.K.Kept l.fn.keeper l.keeper false;
  left : g.K.Kept.is_honest l.keeper → IsLeft (g.K.Kept.vault l.fn.keeper) l.command l.key l.newest l.page (filled l.command.most l.fn.page (asked_at (g.K.Kept.vault l.fn.keeper) l.command l.key)) (drop l.id-index l.id-items);
}
