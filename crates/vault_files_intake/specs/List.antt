-- The records of an intake list.
use Rattle.std.specs.Prelude.{ℕ, List, [], ◌∷◌, length, codes, Bool, ◌&&◌, ◌==◌, Result, Ok, Err, if◌then◌else◌}
use Rattle.std.specs.Str.{bytes_eq}
use Rattle.csv.specs.Reading.{AreRecords, default_config, strip_bom}
use Rattle.csv.specs.declared.parser.State.TheVariants.{StartRecord}
use Rattle.vault_base.specs.declared.refusal.Refusal.{Refusal}
use Rattle.vault_base.specs.declared.refusal.Refusal.TheVariants.{MalformedBody}
use Rattle.vault_files_intake.specs.Row.{cell_at}

-- the bytes of a list at most
abbrev pub most_list : ℕ
most_list = 16777216

-- these are all the records of a list as CSV, after a byte order mark if there is one; blank lines are none (RFC 4180)
abbrev pub AreRecordsOf : List ℕ → List (List (List ℕ)) → Type 0
AreRecordsOf list records = AreRecords default_config StartRecord (strip_bom list) records

-- a record of a row has five cells
abbrev pub is_of_five : List (List ℕ) → Bool
is_of_five cells = length cells == 5

-- the first record: file, key, mode, until, hold
unfoldable pub is_header : List (List ℕ) → Bool
is_header cells =
    is_of_five cells && bytes_eq (cell_at 0 cells) (codes "file") && bytes_eq (cell_at 1 cells) (codes "key")
    && bytes_eq (cell_at 2 cells) (codes "mode") && bytes_eq (cell_at 3 cells) (codes "until") && bytes_eq (cell_at 4 cells) (codes "hold")

-- the records below the header
abbrev pub below_header : List (List (List ℕ)) → Result (List (List (List ℕ))) Refusal
below_header [] = Err MalformedBody
below_header (first ∷ later) = if is_header first then Ok later else Err MalformedBody
