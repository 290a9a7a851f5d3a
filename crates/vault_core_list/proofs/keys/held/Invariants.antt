use Rattle.std.proofs.Common.{◌≡◌, take, map, filter, length, reverse}
use Rattle.vault_core_model.specs.Places.{is_held_in, key_set}
use Rattle.vault_core_list.proofs.keys.held.Given as goal

-- the keys of the entries so far, which are the newest ones
abbrev pub invariant-loop-history : goal.invariant-loop-history
invariant-loop-history l = l.keys.items ≡ key_set (map (λ h. h.entry.key) (filter (λ h. is_held_in l.bucket h.entry) (reverse (take (length l.yielded) (reverse l.histories)))))
