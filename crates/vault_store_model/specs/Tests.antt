-- Which rows a change finds, and what it writes into them.
use Rattle.std.specs.Prelude.{ℕ, pos, Bool, true, false, ◌==◌, ◌&&◌, List, [], ◌∷◌, Option, Some}
use Rattle.std.specs.Str.{bytes_eq}
use Rattle.sqlite_value.specs.declared.value.Value.{Value}
use Rattle.sqlite_value.specs.declared.value.Value.TheVariants.{Int, Text}
use Rattle.sqlite_value.specs.Order.{Row, column}
use Rattle.vault_lock.specs.declared.retention.Default.{Default}
use Rattle.vault_tally.specs.declared.row.Row.{Row as Sums}
use Rattle.vault_core_model.specs.declared.records.Head.{Head}
use Rattle.vault_core_model.specs.declared.records.Removal.{Removal}
use Rattle.vault_audit_model.specs.Rows.{default_mode, default_days, default_years, removal_at, removal_cause, removal_by}
use Rattle.vault_audit_model.specs.Values.{number, flag}

-- ---- which rows

abbrev pub is_text : List ℕ → Value → Bool
is_text text (Text own) = bytes_eq own text
is_text text _ = false

abbrev pub is_number : ℕ → Value → Bool
is_number n (Int (pos own)) = own == n
is_number n _ = false

-- the first column is this text, or this number
abbrev pub is_named : List ℕ → Row → Bool
is_named name row = is_text name (column row 0)

abbrev pub is_numbered : ℕ → Row → Bool
is_numbered id row = is_number id (column row 0)

-- the first two columns are this bucket and this key
abbrev pub is_of_key : List ℕ → List ℕ → Row → Bool
is_of_key bucket key row = is_text bucket (column row 0) && is_text key (column row 1)

abbrev pub every : Row → Bool
every row = true

-- ---- what is written

-- the last moment, alone, with the next id, and with the number of moves
abbrev pub with_last : ℕ → Row → Row
with_last last row = column row 0 ∷ column row 1 ∷ number last ∷ column row 3 ∷ column row 4 ∷ column row 5 ∷ column row 6 ∷ []

abbrev pub with_last_and_next : ℕ → ℕ → Row → Row
with_last_and_next last next row =
    column row 0 ∷ column row 1 ∷ number last ∷ number next ∷ column row 4 ∷ column row 5 ∷ column row 6 ∷ []

abbrev pub with_last_and_moves : ℕ → ℕ → Row → Row
with_last_and_moves last moves row =
    column row 0 ∷ column row 1 ∷ number last ∷ column row 3 ∷ number moves ∷ column row 5 ∷ column row 6 ∷ []

abbrev pub with_sums : Sums → Row → Row
with_sums sums row =
    column row 0 ∷ number sums.admitted ∷ number sums.held ∷ number sums.removed ∷ number sums.weighted ∷ number sums.closed
    ∷ number sums.received ∷ number sums.handed ∷ []

abbrev pub closed_row : Row → Row
closed_row row = column row 0 ∷ column row 1 ∷ column row 2 ∷ flag true ∷ []

abbrev pub with_default_columns : Option Default → Row → Row
with_default_columns default row =
    column row 0 ∷ column row 1 ∷ default_mode default ∷ default_days default ∷ default_years default ∷ []

-- the department of a bucket
abbrev pub with_owner : List ℕ → Row → Row
with_owner dept row = column row 0 ∷ Text dept ∷ column row 2 ∷ column row 3 ∷ column row 4 ∷ []

abbrev pub removed_row : Removal → Row → Row
removed_row r row =
    column row 0 ∷ column row 1 ∷ column row 2 ∷ column row 3 ∷ column row 4 ∷ column row 5 ∷ column row 6 ∷ column row 7
    ∷ column row 8 ∷ removal_at (Some r) ∷ removal_cause (Some r) ∷ removal_by (Some r) ∷ []

abbrev pub with_head_columns : Head → Row → Row
with_head_columns head row = column row 0 ∷ column row 1 ∷ number head.newest ∷ number head.count ∷ []
