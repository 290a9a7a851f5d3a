-- The head that a removal leaves of a key.
use Rattle.std.specs.Prelude.{ℕ, ◌-◌, ◌==◌, ◌&&◌, Bool, true, nat_lt, Option, Some, None}
use Rattle.vault_core_model.specs.declared.records.Head.{Head}

-- the head of a key with one entry fewer, of which this is the newest; none where no entry is left
abbrev pub head_without : Option ℕ → Option Head → Option Head
head_without None head = None
head_without (Some id) None = None
head_without (Some id) (Some old) = Some (record { newest = id; count = old.count - 1 })

-- a key with this head holds no entry but that
abbrev pub holds_no_other : Option Head → ℕ → Bool
holds_no_other None id = true
holds_no_other (Some head) id = nat_lt head.count 2 && (head.newest == id)
