-- What texts spell about retention.
use Rattle.std.specs.Prelude.{ℕ, List, Option, Some, None, Result, Ok, Err}
use Rattle.vault_base.specs.declared.refusal.Refusal.{Refusal}
use Rattle.vault_base.specs.declared.refusal.Refusal.TheVariants.{InvalidArgument}
use Rattle.vault_lock.specs.declared.retention.Retention.{Retention}
use Rattle.vault_values.specs.Fault.{◌>>=◌, or_invalid}
use Rattle.vault_values.specs.Words.{mode_named}
use Rattle.vault_values.specs.Named.{until_named}

-- the mode is read before the moment
unfoldable pub retention_spelled : List ℕ → List ℕ → Result Retention Refusal
retention_spelled mode until = do
  mode ← or_invalid (mode_named mode)
  until ← until_named until
  Ok (record { mode = mode; until = until })

-- the two stand together or not at all
unfoldable pub both_or_none : Option (List ℕ) → Option (List ℕ) → Result (Option Retention) Refusal
both_or_none None None = Ok None
both_or_none None (Some until) = Err InvalidArgument
both_or_none (Some mode) None = Err InvalidArgument
both_or_none (Some mode) (Some until) = do
  retention ← retention_spelled mode until
  Ok (Some retention)
