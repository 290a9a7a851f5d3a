use Rattle.std.proofs.Common.{◌≡◌, ◌≤◌, ◌+◌, ◌*◌, length, false}
use Rattle.vault_base.specs.Limits.{most_ids, most_keys}
use Rattle.vault_core_model.specs.Leaves.{LeavesSame}
use Rattle.vault_core_model.specs.Reads.{later_keys}
use Rattle.vault_core_listing.specs.Walk.{beginning, completed}
use Rattle.vault_core_listing.proofs.listings.list_after.Given as goal

-- with the keys that are left the page becomes what it is to be, and each page of keys leaves fewer
abbrev pub invariant-loop : goal.invariant-loop
invariant-loop g l = record {
  leaves : LeavesSame g.K.Kept l.fn.keeper l.keeper false;
  left : g.K.Kept.is_honest l.keeper → completed (g.K.Kept.vault l.fn.keeper) l.command l.page l.after ≡ completed (g.K.Kept.vault l.fn.keeper) l.command l.fn.page (beginning l.command);
  few : g.K.Kept.is_honest l.keeper → length (later_keys (g.K.Kept.vault l.fn.keeper) l.command.bucket l.after) + most_keys * l.counter ≤ most_ids;
}
