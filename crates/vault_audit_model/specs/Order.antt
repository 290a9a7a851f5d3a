-- The order of the tables.
use Rattle.std.specs.Prelude.{ℕ, List, [], ◌∷◌}
use Rattle.vault_base.specs.declared.refusal.Table.{Table}
use Rattle.vault_base.specs.declared.refusal.Table.TheVariants.{Meta, Departments, Callers, Buckets, Rules, Entries, Contents, Settings, Intake, Heads, Tenures, External}
use Rattle.vault_audit_model.specs.declared.schema.SchemaVersion.{SchemaVersion}
use Rattle.vault_audit_model.specs.declared.schema.SchemaVersion.TheVariants.{First, Second, Third, Fourth}

-- how many tables are made before this one, and so its number among those of a schema
abbrev pub place_of : Table → ℕ
place_of Meta = 0
place_of Departments = 1
place_of Callers = 2
place_of Buckets = 3
place_of Rules = 4
place_of Entries = 5
place_of Contents = 6
place_of Settings = 7
place_of Intake = 8
place_of Heads = 9
place_of Tenures = 10
place_of External = 11

-- the tables that a schema version has besides those of the first
abbrev pub made_later : SchemaVersion → List Table
made_later First = []
made_later Second = []
made_later Third = Tenures ∷ []
made_later Fourth = Tenures ∷ External ∷ []

-- the tables of a schema version, in their order
abbrev pub made_in : SchemaVersion → List Table
made_in n = Meta ∷ Departments ∷ Callers ∷ Buckets ∷ Rules ∷ Entries ∷ Contents ∷ Settings ∷ Intake ∷ Heads ∷ made_later n
