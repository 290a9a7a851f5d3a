use Rattle.std.proofs.Common.{◌≡◌, ◌*◌, take}
use Rattle.std.specs.Prelude.{filter, sum_by}
use Rattle.vault_core_model.specs.Places.{is_held_version_in}
use Rattle.vault_core_model.specs.Totals.{last_day_from}
use Rattle.vault_core_list.proofs.bucket.held.Given as goal

-- the sums over the versions so far
abbrev pub invariant-loop-history : goal.invariant-loop-history
invariant-loop-history l = record {
  bytes_so_far : l.bytes ≡ sum_by (λ h. h.entry.size) (filter (λ h. is_held_version_in l.bucket h.entry) (take l.history-index l.histories));
  weight_so_far : l.weight ≡ sum_by (λ h. h.entry.size * last_day_from h.tenures) (filter (λ h. is_held_version_in l.bucket h.entry) (take l.history-index l.histories));
}
