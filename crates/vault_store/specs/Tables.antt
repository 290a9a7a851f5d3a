-- The tables of a connection after a call that was refused.
use Rattle.std.specs.Prelude.{◌≡◌, false, IsTrue}
use Rattle.sqlite.specs.Effect.{IsDatabase}
use Rattle.sqlite.specs.State.{State}

-- all is committed, and the tables obey their schema
abbrev pub IsAtRest : State → Type 0
IsAtRest s = IsTrue s.is_open → (s.now ≡ s.committed) × IsDatabase s.committed

-- no table was changed: where the connection was open and still is, it shows the same, and the last commit is the same
abbrev pub HasTablesOf : State → State → Type 0
HasTablesOf old new = IsTrue old.is_open → IsTrue new.is_open → (new.now ≡ old.now) × (new.committed ≡ old.committed)

-- a transaction was undone, and is ended
abbrev pub IsUndone : State → State → Type 0
IsUndone old new =
    (new.in_transaction ≡ false) × (IsTrue new.is_open → IsTrue old.is_open × (new.now ≡ old.committed) × (new.committed ≡ old.committed))
