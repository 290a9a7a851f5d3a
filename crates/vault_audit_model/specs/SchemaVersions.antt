-- The schema versions of the schema.
use Rattle.std.specs.Prelude.{ℕ, Bool, true, false}
use Rattle.vault_audit_model.specs.declared.schema.SchemaVersion.{SchemaVersion}
use Rattle.vault_audit_model.specs.declared.schema.SchemaVersion.TheVariants.{First, Second, Third, Fourth}

-- the number that meta has
abbrev pub number_of : SchemaVersion → ℕ
number_of First = 1
number_of Second = 2
number_of Third = 3
number_of Fourth = 4

-- its vaults register contents that are kept outside
abbrev pub is_external : SchemaVersion → Bool
is_external First = false
is_external Second = false
is_external Third = false
is_external Fourth = true

-- that of a vault's file, new or opened: it follows from whether the vault registers such contents
abbrev pub edition_of : Bool → SchemaVersion
edition_of false = Third
edition_of true = Fourth

-- no other has a table or a column that it lacks
abbrev pub newest : SchemaVersion
newest = Fourth
