use Rattle.std.proofs.Common.{◌≡◌, take, false}
use Rattle.vault_core_model.specs.Leaves.{LeavesSame}
use Rattle.std.specs.Prelude.{flat_map}
use Rattle.vault_core_listing.specs.Walk.{asked_at, filled}
use Rattle.vault_core_listing.proofs.listings.list_keys.Given as goal

-- the page has what is asked for of the keys so far
abbrev pub invariant-loop-key : goal.invariant-loop-key
invariant-loop-key g l = record {
  leaves : LeavesSame g.K.Kept l.fn.keeper l.keeper false;
  so_far : g.K.Kept.is_honest l.keeper → l.page ≡ filled l.command.most l.fn.page (flat_map (asked_at (g.K.Kept.vault l.fn.keeper) l.command) (take l.key-index l.keys));
}
