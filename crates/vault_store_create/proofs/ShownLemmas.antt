-- A query shows of a schema version's table the rows of the copy of the vault that its tables are sound for, as the newest schema version has them.
use Rattle.std.proofs.Common.{Bool, false, IsTrue, List, [], ◌∷◌, map, sym, subst, true≢false}
use Rattle.std.specs.Prelude.{IsPermutation}
use Rattle.std.proofs.lemmas.List.Sorted.{IsPermutation-map, IsPermutation-trans}
use Rattle.sqlite_trees.proofs.ListLemmas.{map-map}
use Rattle.sqlite_value.specs.Order.{Row, column}
use Rattle.sqlite.specs.Effect.{Database}
use Rattle.sqlite.specs.State.{State, Shown}
use Rattle.vault_base.specs.declared.refusal.Table.{Table}
use Rattle.vault_base.specs.declared.refusal.Table.TheVariants as table
use Rattle.vault_core_model.specs.Vault.{Vault}
use Rattle.vault_audit_model.specs.declared.schema.SchemaVersion.{SchemaVersion}
use Rattle.vault_audit_model.specs.declared.schema.SchemaVersion.TheVariants.{First, Second, Third, Fourth}
use Rattle.vault_audit_model.specs.SchemaVersions.{number_of, edition_of}
use Rattle.vault_audit_model.specs.Rows.{meta_row, meta_columns_as}
use Rattle.vault_audit_model.specs.Spells.{AreSoundAs, meta_stated, meta_of}
use Rattle.vault_audit_model.specs.Tables.{schema_of, meta_tree}
use Rattle.vault_audit_model.specs.Values.{number}
use Rattle.vault_audit_rows.proofs.RecordLemmas.{scanned}
use Rattle.vault_audit_rows.proofs.ScanLemmas.{shows}
use Rattle.vault_store_model.proofs.ScanLemmas.{uncovered}
use Rattle.vault_store_model.specs.Rows.{rows_of}
use Rattle.vault_store_edits.specs.Trees.{has_table, tree_of}
use Rattle.vault_store_create.specs.Copied.{registering}
use Rattle.vault_store_create.specs.Listings.{listing_of, tenures_listing}
use Rattle.vault_store_create.proofs.TenureLemmas.{first_tenures_shown}
use Rattle.vault_store_create.proofs.ListingLemmas.{Reads, terms_of, reads_meta, reads_departments, reads_callers, reads_buckets, reads_rules, reads_entries, reads_contents, reads_settings, reads_intake, reads_heads, reads_tenures, reads_tenures_later}

-- the row of meta with the number of the copy's schema version, the place 0, and 1 for done
abbrev numbered_as : Bool → Row → Row
numbered_as external m =
    column m 0 ∷ number (number_of (edition_of external)) ∷ column m 2 ∷ column m 3 ∷ column m 4 ∷ number 0 ∷ number 1 ∷ []

abbrev ShowsTable : Bool → SchemaVersion → Database → Vault → Table → Type 0
ShowsTable external n db v t = IsPermutation (rows_of (registering external v) t) (map (shows (terms_of external n t) []) (db.trees (tree_of t)))

module _ (external : Bool) (db : Database) (v : Vault) where
  abbrev MetaStated : SchemaVersion → Type 0
  MetaStated n = IsPermutation (meta_row (meta_of (registering external v)) ∷ []) (map (λ r. numbered_as external (meta_columns_as n r)) (db.trees meta_tree))

  meta_numbered : (n : SchemaVersion) → AreSoundAs n db v → MetaStated n
  meta_numbered n is =
      subst (IsPermutation (meta_row (meta_of (registering external v)) ∷ [])) (map-map (numbered_as external) (meta_columns_as n) (db.trees meta_tree))
      (IsPermutation-map (numbered_as external) (meta_row (meta_stated n v) ∷ []) (map (meta_columns_as n) (db.trees meta_tree)) is.spells.meta)

  meta_shown : (n : SchemaVersion) → AreSoundAs n db v → ShowsTable external n db v table.Meta
  meta_shown First is = meta_numbered First is
  meta_shown Second is = meta_numbered Second is
  meta_shown Third is = meta_numbered Third is
  meta_shown Fourth is = meta_numbered Fourth is

  departments_shown : (n : SchemaVersion) → AreSoundAs n db v → ShowsTable external n db v table.Departments
  departments_shown First is = is.numbers
  departments_shown Second is = is.numbers
  departments_shown Third is = is.numbers
  departments_shown Fourth is = is.numbers

  rules_shown : (n : SchemaVersion) → AreSoundAs n db v → ShowsTable external n db v table.Rules
  rules_shown First is = is.spells.rules
  rules_shown Second is = is.spells.rules
  rules_shown Third is = is.spells.rules
  rules_shown Fourth is = is.spells.rules

module _ (external : Bool) (n : SchemaVersion) (old new : State) (v : Vault) (is : AreSoundAs n old.now v) where
  by_scan : (t : Table) → Reads external n t → ShowsTable external n old.now v t → (rows : List Row) → Shown (listing_of external n t) [] old new rows
      → IsPermutation (rows_of (registering external v) t) rows
  by_scan t it stated rows shown =
      IsPermutation-trans _ _ _ stated (scanned (schema_of n) (listing_of external n t) (tree_of t) (terms_of external n t) it old new is.spells.schema (uncovered old.now.trees (tree_of t)) rows shown)

tenures_shown : (external : Bool) (n : SchemaVersion) (old new : State) (v : Vault) → AreSoundAs n old.now v → (rows : List Row) → Shown (tenures_listing n) [] old new rows
    → IsPermutation (rows_of (registering external v) table.Tenures) rows
tenures_shown external First old new v is = first_tenures_shown First old new v is is.spells.kept.unmoved
tenures_shown external Second old new v is = first_tenures_shown Second old new v is is.spells.kept.unmoved
tenures_shown external Third old new v is = by_scan external Third old new v is table.Tenures (reads_tenures external) is.spells.tenures
tenures_shown external Fourth old new v is = by_scan external Fourth old new v is table.Tenures (reads_tenures_later external) is.spells.tenures

pub shown_stated : (external : Bool) (n : SchemaVersion) (t : Table) → IsTrue (has_table false t) → (old new : State) (v : Vault) → AreSoundAs n old.now v → (rows : List Row)
    → Shown (listing_of external n t) [] old new rows → IsPermutation (rows_of (registering external v) t) rows
shown_stated external n table.Meta there old new v is = by_scan external n old new v is table.Meta (reads_meta external n) (meta_shown external old.now v n is)
shown_stated external n table.Departments there old new v is = by_scan external n old new v is table.Departments (reads_departments external n) (departments_shown external old.now v n is)
shown_stated external n table.Callers there old new v is = by_scan external n old new v is table.Callers (reads_callers external n) is.spells.callers
shown_stated external n table.Buckets there old new v is = by_scan external n old new v is table.Buckets (reads_buckets external n) is.spells.buckets
shown_stated external n table.Rules there old new v is = by_scan external n old new v is table.Rules (reads_rules external n) (rules_shown external old.now v n is)
shown_stated external n table.Entries there old new v is = by_scan external n old new v is table.Entries (reads_entries external n) is.spells.entries
shown_stated external n table.Contents there old new v is = by_scan external n old new v is table.Contents (reads_contents external n) is.spells.contents
shown_stated external n table.Settings there old new v is = by_scan external n old new v is table.Settings (reads_settings external n) is.spells.settings
shown_stated external n table.Intake there old new v is = by_scan external n old new v is table.Intake (reads_intake external n) is.spells.intake
shown_stated external n table.Heads there old new v is = by_scan external n old new v is table.Heads (reads_heads external n) is.heads
shown_stated external n table.Tenures there old new v is = tenures_shown external n old new v is
shown_stated external n table.External there old new v is = absurd (true≢false (sym there))
