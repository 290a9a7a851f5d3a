use Rattle.std.proofs.Common.{◌≡◌, ◌≤◌, take, length, option_map, filter}
use Rattle.vault_core_model.specs.Places.{is_held_at}
use Rattle.vault_core_model.specs.Reads.{head_over}
use Rattle.vault_core_list.proofs.find.head.Given as goal

-- the head of the entries so far
abbrev pub invariant-loop-history : goal.invariant-loop-history
invariant-loop-history l = record {
  so_far : option_map (λ n. record { newest = n; count = l.count }) l.newest ≡ head_over (filter (λ h. is_held_at l.bucket l.key h.entry) (take l.history-index l.histories));
  counted : l.count ≡ length (filter (λ h. is_held_at l.bucket l.key h.entry) (take l.history-index l.histories));
  few : l.count ≤ l.history-index;
}
