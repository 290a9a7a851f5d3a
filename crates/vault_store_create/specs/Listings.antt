-- The statements that read the tables of a schema version, and that put rows into those of a new vault.
use Rattle.std.specs.Prelude.{ℕ, Bool, true, false, List, [], ◌++◌, codes}
use Rattle.vault_base.specs.declared.refusal.Table.{Table}
use Rattle.vault_base.specs.declared.refusal.Table.TheVariants as table
use Rattle.vault_audit_model.specs.declared.schema.SchemaVersion.{SchemaVersion}
use Rattle.vault_audit_model.specs.declared.schema.SchemaVersion.TheVariants.{First, Second, Third, Fourth}
use Rattle.vault_audit_model.specs.Tables.{tenures}
use Rattle.vault_audit_schema.specs.Selects.{departments_select, rules_select, table_as}
use Rattle.vault_audit_schema.specs.Texts.{insert_into_text, insert_text, select_text}
use Rattle.vault_store_edits.specs.Trees.{made_as}

-- the number of a new vault's schema version
abbrev pub number_shown : Bool → List ℕ
number_shown false = codes "3"
number_shown true = codes "4"

-- how often a bucket was moved: never, where a schema version has no number of moves
abbrev pub moves_shown : SchemaVersion → List ℕ
moves_shown First = codes "0"
moves_shown Second = codes "0"
moves_shown Third = codes "moves"
moves_shown Fourth = codes "moves"

-- the row of meta as a new vault has it: with its number, the place 0, and 1 for done
abbrev pub meta_listing : Bool → SchemaVersion → List ℕ
meta_listing external n = codes "SELECT one, " ++ number_shown external ++ codes ", last, next, " ++ moves_shown n ++ codes ", 0, 1 FROM meta"

-- each version as its bucket's department's since its admission
abbrev pub first_tenures_listing : List ℕ
first_tenures_listing = codes "SELECT e.id, 0, b.dept, e.admitted FROM entries AS e JOIN buckets AS b ON b.name = e.bucket WHERE e.marker = 0"

abbrev pub tenures_listing : SchemaVersion → List ℕ
tenures_listing First = first_tenures_listing
tenures_listing Second = first_tenures_listing
tenures_listing Third = select_text tenures []
tenures_listing Fourth = select_text tenures []

-- the query for the rows of a table of that schema version, each as the newest schema version has it
abbrev pub listing_of : Bool → SchemaVersion → Table → List ℕ
listing_of external n table.Meta = meta_listing external n
listing_of external n table.Departments = departments_select n []
listing_of external n table.Rules = rules_select n []
listing_of external n table.Tenures = tenures_listing n
listing_of external n t = select_text (table_as n t) []

-- the statement that puts a row into a table of a new vault
abbrev pub putting_of : Bool → Table → List ℕ
putting_of external t = insert_text (made_as external t)

-- the one that puts the row of meta of a new vault in
abbrev pub first_meta : Bool → List ℕ
first_meta false = insert_into_text (made_as false table.Meta) (codes " VALUES (1, 3, 0, 1, 0)")
first_meta true = insert_into_text (made_as true table.Meta) (codes " VALUES (1, 4, 0, 1, 0, 0, 1)")
