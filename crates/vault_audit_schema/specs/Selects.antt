-- The tables of each schema version, the queries over those that have later columns, and what these show of a row.
use Rattle.std.specs.Prelude.{ℕ, List, [], ◌∷◌, codes}
use Rattle.sqlite_sql.specs.Term.{Term}
use Rattle.sqlite_value.specs.declared.value.Value.TheVariants.{Null}
use Rattle.sqlite.specs.Table.{Table as Made}
use Rattle.vault_base.specs.declared.refusal.Table.{Table}
use Rattle.vault_base.specs.declared.refusal.Table.TheVariants as table
use Rattle.vault_audit_model.specs.declared.schema.SchemaVersion.{SchemaVersion}
use Rattle.vault_audit_model.specs.declared.schema.SchemaVersion.TheVariants.{First, Second, Third, Fourth}
use Rattle.vault_audit_model.specs.Tables.{meta, meta_as, departments, departments_as, callers, buckets, rules, rules_as, entries, contents, settings, intake, heads, tenures, external}
use Rattle.vault_audit_model.specs.Values.{number}
use Rattle.vault_audit_schema.specs.Texts.{Absent, select_text_as, terms_as}

-- what is there for a column that a schema version lacks: a number, or NULL
abbrev pub zero : Absent
zero = record { written = codes "0"; value = number 0 }

abbrev pub one : Absent
one = record { written = codes "1"; value = number 1 }

abbrev pub nothing : Absent
nothing = record { written = codes "NULL"; value = Null }

-- where meta has no columns for them, no bucket was moved, and no list of commands is followed: the vault is at place 0, and that is done
abbrev pub absent_in_meta : SchemaVersion → List Absent
absent_in_meta First = zero ∷ zero ∷ one ∷ []
absent_in_meta Second = zero ∷ zero ∷ one ∷ []
absent_in_meta Third = zero ∷ one ∷ []
absent_in_meta Fourth = []

abbrev pub meta_select : SchemaVersion → List ℕ → List ℕ
meta_select n ending = select_text_as (absent_in_meta n) (meta_as n) meta ending

abbrev pub meta_terms : SchemaVersion → List Term
meta_terms n = terms_as (absent_in_meta n) (meta_as n)

-- where departments has no columns for them, no bytes came or went with a bucket
abbrev pub absent_in_departments : SchemaVersion → List Absent
absent_in_departments First = zero ∷ zero ∷ []
absent_in_departments Second = zero ∷ zero ∷ []
absent_in_departments Third = []
absent_in_departments Fourth = []

abbrev pub departments_select : SchemaVersion → List ℕ → List ℕ
departments_select n ending = select_text_as (absent_in_departments n) (departments_as n) departments ending

abbrev pub department_terms : SchemaVersion → List Term
department_terms n = terms_as (absent_in_departments n) (departments_as n)

-- where rules has no columns for them, no rule has bounds of sizes
abbrev pub absent_in_rules : SchemaVersion → List Absent
absent_in_rules First = nothing ∷ nothing ∷ []
absent_in_rules Second = []
absent_in_rules Third = []
absent_in_rules Fourth = []

abbrev pub rules_select : SchemaVersion → List ℕ → List ℕ
rules_select n ending = select_text_as (absent_in_rules n) (rules_as n) rules ending

abbrev pub rule_terms : SchemaVersion → List Term
rule_terms n = terms_as (absent_in_rules n) (rules_as n)

-- ---- a table of a schema version; one that came with a later schema version is what it is there

abbrev pub table_as : SchemaVersion → Table → Made
table_as n table.Meta = meta_as n
table_as n table.Departments = departments_as n
table_as n table.Callers = callers
table_as n table.Buckets = buckets
table_as n table.Rules = rules_as n
table_as n table.Entries = entries
table_as n table.Contents = contents
table_as n table.Settings = settings
table_as n table.Intake = intake
table_as n table.Heads = heads
table_as n table.Tenures = tenures
table_as n table.External = external
