-- What a record of an intake list asks for. Its cells are file, key, mode, until and hold.
use Rattle.std.specs.Prelude.{ℕ, List, [], ◌∷◌, Bool, Option, Some, None, Result, Ok, unwrap_or}
use Rattle.csv.specs.Records.{field_at}
use Rattle.vault_base.specs.declared.refusal.Refusal.{Refusal}
use Rattle.vault_base.specs.declared.refusal.Refusal.TheVariants.{InvalidArgument}
use Rattle.vault_lock.specs.declared.retention.Retention.{Retention}
use Rattle.vault_values.specs.Fault.{◌>>=◌, or_refused, or_invalid, if_given}
use Rattle.vault_values.specs.Locks.{both_or_none}
use Rattle.vault_values.specs.Named.{key_named}
use Rattle.vault_values.specs.Words.{hold_named}
use Rattle.vault_files_intake.specs.FileName.{text_of, file_name_of}
use Rattle.vault_files_intake.specs.declared.row.Row.{Row}

-- the cell at a place, counted from 0; there is no other than an empty one after the last
abbrev pub cell_at : ℕ → List (List ℕ) → List ℕ
cell_at place cells = unwrap_or (field_at cells place) []

-- a cell must be UTF-8
abbrev pub text_named : List ℕ → Result (List ℕ) Refusal
text_named bytes = or_invalid (text_of bytes)

-- an empty cell is one that is left out
abbrev pub if_any : List ℕ → Option (List ℕ)
if_any [] = None
if_any (b ∷ bytes) = Some (b ∷ bytes)

unfoldable pub optional_text_named : List ℕ → Result (Option (List ℕ)) Refusal
optional_text_named bytes = if_given text_named (if_any bytes)

unfoldable pub file_of : List ℕ → Result (List ℕ) Refusal
file_of cell = do
  text ← text_named cell
  or_refused InvalidArgument (file_name_of text)

unfoldable pub key_of : List ℕ → Result (List ℕ) Refusal
key_of cell = do
  text ← text_named cell
  key_named text

-- the two stand together or not at all
unfoldable pub retention_of : List ℕ → List ℕ → Result (Option Retention) Refusal
retention_of mode until = do
  mode ← optional_text_named mode
  until ← optional_text_named until
  both_or_none mode until

unfoldable pub hold_of : List ℕ → Result (Option Bool) Refusal
hold_of cell = do
  text ← optional_text_named cell
  if_given (λ text. or_invalid (hold_named text)) text

-- what a record of five cells asks for, or the first fault in the order of its cells
unfoldable pub row_of : List (List ℕ) → Result Row Refusal
row_of cells = do
  file ← file_of (cell_at 0 cells)
  key ← key_of (cell_at 1 cells)
  retention ← retention_of (cell_at 2 cells) (cell_at 3 cells)
  hold ← hold_of (cell_at 4 cells)
  Ok (record { file = file; key = key; retention = retention; hold = hold })
