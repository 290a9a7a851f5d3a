use Rattle.std.proofs.Common.{◌≡◌, ℕ, ◌+◌, ◌++◌, ◌≤◌, length, drop}
use Rattle.vault_rules.specs.Walk.{dues, removals, left_over, marked_above}
use Rattle.vault_rules.proofs.plan.remove_noncurrent.Given as goal

abbrev pub invariant-loop-i : goal.invariant-loop-i
invariant-loop-i l = record {
  steps : (id : ℕ) → l.steps.items ++ removals (dues l.rules l.key l.now) (drop l.i l.held ++ marked_above id l.now l.marked) ≡ l.initial.steps.items ++ removals (dues l.rules l.key l.now) (l.held ++ marked_above id l.now l.marked);
  left : (id : ℕ) → l.left + length (left_over (dues l.rules l.key l.now) (drop l.i l.held ++ marked_above id l.now l.marked)) ≡ length (left_over (dues l.rules l.key l.now) (l.held ++ marked_above id l.now l.marked));
  small : l.left ≤ l.i;
}
