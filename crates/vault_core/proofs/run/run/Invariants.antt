use Rattle.std.proofs.Common.{◌≡◌, ◌≤◌, length, take, vec_capacity, vec_len}
use Rattle.vault_core.specs.StepByStep.{StepByStep}
use Rattle.vault_core.proofs.run.run.Given as goal

-- the commands so far have the replies so far, and there is room for the rest
abbrev pub invariant-loop-timed : goal.invariant-loop-timed
invariant-loop-timed g l = record {
  so_far : StepByStep g.K.Kept l.fn.keeper (take l.timed-index l.commands) l.replies.items l.keeper;
  room : length l.commands ≤ vec_capacity l.replies;
  stated : vec_len l.replies ≡ l.timed-index;
}
