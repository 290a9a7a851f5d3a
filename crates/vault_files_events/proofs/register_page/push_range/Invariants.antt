use Rattle.std.proofs.Common.{◌≡◌, ◌++◌, take, drop, false}
use Rattle.vault_core_model.specs.Leaves.{LeavesSame}
use Rattle.vault_files_events.specs.RegisterPage.{rows_in}
use Rattle.vault_files_events.proofs.register_page.push_range.Given as goal

-- the records of the removed ones before this place were added
abbrev pub invariant-loop-place : goal.invariant-loop-place
invariant-loop-place g l = record {
  leaves : LeavesSame g.K.Kept l.fn.keeper l.keeper false;
  added : g.K.Kept.is_honest l.keeper → l.text.items ≡ l.fn.text.items ++ rows_in (take l.place (drop l.fn.after (g.K.Kept.vault l.fn.keeper).histories));
}
