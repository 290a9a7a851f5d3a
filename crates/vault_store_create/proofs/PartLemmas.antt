-- Parts of a transaction.
use Rattle.std.proofs.Common.{ℕ, List, Ok, Err, Result, OnOk}
use Rattle.sqlite_value.specs.Order.{Row}
use Rattle.sqlite.specs.declared.error.Error.{Error}
use Rattle.sqlite.specs.Effect.{Database}
use Rattle.sqlite.specs.State.{State, Executes, ExecutesInside}
use Rattle.vault_store_create.specs.Copied.{Steps}

-- a statement that runs is a part that goes from one database to another
pub steps_if : (text : List ℕ) (params : Row) (old new : State) (r : Result ℕ Error) (Goes : Database → Database → Type 0) → ((count : ℕ) → Executes text params old new (Ok count) → Goes old.now new.now)
    → ExecutesInside 0 text params old new r → OnOk r (Steps old new Goes)
steps_if text params old new (Err e) Goes does h = tt
steps_if text params old new (Ok count) Goes does (h, shown, _) =
    record { was_open = shown.was_open; is_open = shown.is_open; inside = shown.mode; committed = shown.committed_is; goes = does count h }
