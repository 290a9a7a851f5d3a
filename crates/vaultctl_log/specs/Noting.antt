-- Bytes that go by, noted.
use Rattle.std.specs.Prelude.{ℕ, ◌≡◌, ◌+◌, ◌-◌, ◌⊎◌, ◌++◌, List, length, min, take}
use Rattle.vaultctl_log.specs.declared.seen.Seen.{Seen}

-- these bytes went by: they are counted, and as many are put to the front as are kept; or there was no room for them, and no more are kept
abbrev pub Notes : Seen → Seen → List ℕ → Type 0
Notes old new bytes =
    (new.count ≡ min (old.count + length bytes) 18446744073709551615)
    × (((new.front.items ≡ old.front.items ++ take (old.most - length old.front.items) bytes) × (new.most ≡ old.most))
    ⊎ ((new.front.items ≡ old.front.items) × (new.most ≡ 0)))
