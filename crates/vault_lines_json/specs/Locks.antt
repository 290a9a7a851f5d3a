-- What the members of an object spell about retention and legal hold.
use Rattle.std.specs.Prelude.{ℕ, List, codes, Option, Some, None, Result, Ok, Err, Bool}
use Rattle.serde_json.specs.Data.{Data}
use Rattle.vault_base.specs.declared.refusal.Refusal.{Refusal}
use Rattle.vault_base.specs.declared.refusal.Refusal.TheVariants.{InvalidArgument}
use Rattle.vault_lock.specs.declared.retention.Default.{Default}
use Rattle.vault_lock.specs.declared.retention.Period.TheVariants.{Days, Years}
use Rattle.vault_lock.specs.declared.retention.Retention.{Retention}
use Rattle.vault_values.specs.Fault.{◌>>=◌, or_invalid, if_given}
use Rattle.vault_values.specs.Words.{mode_named, hold_named}
use Rattle.vault_values.specs.Locks.{retention_spelled, both_or_none}
use Rattle.vault_lines_json.specs.Members.{text_of, optional_text_of, optional_whole_of, flag_of}
use Rattle.vault_lines_json.specs.declared.members.Whole.{Whole}
use Rattle.vault_lines_json.specs.Values.{below}

unfoldable pub retention_of : Data → Result Retention Refusal
retention_of d = do
  mode ← text_of (codes "mode") d
  until ← text_of (codes "until") d
  retention_spelled mode until

unfoldable pub optional_retention_of : Data → Result (Option Retention) Refusal
optional_retention_of d = do
  mode ← optional_text_of (codes "mode") d
  until ← optional_text_of (codes "until") d
  both_or_none mode until

unfoldable pub hold_of : Data → Result Bool Refusal
hold_of d = do
  text ← text_of (codes "hold") d
  or_invalid (hold_named text)

unfoldable pub optional_hold_of : Data → Result (Option Bool) Refusal
optional_hold_of d = do
  text ← optional_text_of (codes "hold") d
  if_given (λ text. or_invalid (hold_named text)) text

unfoldable pub bypass_of : Data → Result Bool Refusal
bypass_of d = flag_of (codes "bypass") d

-- nothing clears the default; else there is a mode, and either days or years
unfoldable pub default_spelled : Option (List ℕ) → Option Whole → Option Whole → Result (Option Default) Refusal
default_spelled None None None = Ok None
default_spelled (Some mode) (Some days) None = do
  mode ← or_invalid (mode_named mode)
  days ← below 4294967296 days
  Ok (Some (record { mode = mode; period = Days days }))
default_spelled (Some mode) None (Some years) = do
  mode ← or_invalid (mode_named mode)
  years ← below 65536 years
  Ok (Some (record { mode = mode; period = Years years }))
default_spelled None (Some days) years = Err InvalidArgument
default_spelled None None (Some years) = Err InvalidArgument
default_spelled (Some mode) None None = Err InvalidArgument
default_spelled (Some mode) (Some days) (Some years) = Err InvalidArgument

unfoldable pub default_of : Data → Result (Option Default) Refusal
default_of d = do
  mode ← optional_text_of (codes "mode") d
  days ← optional_whole_of (codes "days") d
  years ← optional_whole_of (codes "years") d
  default_spelled mode days years
