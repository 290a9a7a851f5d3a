-- Rows that say whether a row of another table stands beside one.
use Rattle.std.specs.Prelude.{◌≡◌, ◌≢◌, Bool, true, false, MatchBool}
use Rattle.sqlite_value.specs.declared.value.Value.{Value}
use Rattle.sqlite_value.specs.declared.value.Value.TheVariants.{Null}
use Rattle.sqlite_value.specs.Order.{Row, column}
use Rattle.vault_audit_model.specs.Values.{flag}

-- what is absent is NULL
abbrev pub IsAbsentAs : Bool → Value → Type 0
IsAbsentAs true v = v ≡ Null
IsAbsentAs false v = v ≢ Null

-- the first value says whether the second is absent
abbrev pub ReportsAbsence : Row → Type 0
ReportsAbsence row = (b : Bool) × (column row 0 ≡ flag b) × IsAbsentAs b (column row 1)

-- an answer to whether that holds
abbrev pub Decides : Bool → Type 0 → Type 0
Decides b P = MatchBool b P (¬ P)
