-- What columns show.
use Rattle.std.specs.Prelude.{◌≡◌, ◌≢◌, Option, IfSome, MatchOption}
use Rattle.sqlite_value.specs.declared.value.Value.{Value}
use Rattle.vault_core_model.specs.declared.records.Removal.{Removal}
use Rattle.vault_audit_model.specs.Limits.{IsRemoval}
use Rattle.vault_audit_model.specs.Rows.{removal_at, removal_cause, removal_by}

-- the cell is that of the value found, which is within its limits; where none is found, it is that of no value within its limits
abbrev pub Shows : {A : Type 0} → (A → Value) → (A → Type 0) → Value → Option A → Type 0
Shows {A} cell_of Is cell found = MatchOption found ((x : A) → Is x → cell ≢ cell_of x) (λ x. (cell ≡ cell_of x) × Is x)

-- these three cells are neither those of a removal within its limits nor those of an entry that wasn't removed
abbrev pub ShowNoRemoval : Value → Value → Value → Type 0
ShowNoRemoval at cause by = (r : Option Removal) → IfSome r IsRemoval → at ≡ removal_at r → cause ≡ removal_cause r → by ≢ removal_by r
