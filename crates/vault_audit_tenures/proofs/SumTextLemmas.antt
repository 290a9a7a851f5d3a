-- What the statements on departments, on entries beside their buckets, and on tenures beside their versions, read.
use Rattle.std.proofs.Common.{◌≡◌, List, ℕ, [], ◌∷◌, map, codes, false, refl, ap₂, arith}
use Rattle.sqlite_tied.specs.Compute.{everything}
use Rattle.sqlite_value.specs.Keys.{ascending}
use Rattle.sqlite_value.specs.declared.keys.Key.{Key}
use Rattle.sqlite_value.specs.declared.keys.Collation.TheVariants.{Binary}
use Rattle.sqlite_value.specs.Order.{Row}
use Rattle.sqlite.specs.Command.TheVariants.{Select}
use Rattle.sqlite.specs.Listing.{understood, reads_listing}
use Rattle.sqlite.proofs.Callers.{IsPlain, command_of}
use Rattle.sqlite_sql.specs.Term.{Term, col}
use Rattle.vault_audit_model.specs.declared.schema.SchemaVersion.{SchemaVersion}
use Rattle.vault_audit_model.specs.declared.schema.SchemaVersion.TheVariants.{First, Second, Third, Fourth}
use Rattle.vault_audit_model.specs.Queries.{table_scan, Selects}
use Rattle.vault_audit_model.specs.Rows.{department_columns_as}
use Rattle.vault_audit_model.specs.Tables.{schema_of, departments, departments_tree, buckets_tree, entries_tree, tenures_tree}
use Rattle.vault_audit_entries.proofs.JoinLemmas.{beside_of}
use Rattle.vault_audit_schema.specs.Selects.{departments_select, department_terms}
use Rattle.vault_audit_schema.specs.Texts.{names_of}
use Rattle.vault_audit_rows.proofs.JoinLemmas.{joined_of}
use Rattle.vault_audit_rows.proofs.ScanLemmas.{shows}
use Rattle.vault_audit_rows.specs.Health.{Asks}
use Rattle.vault_audit_tenures.specs.Decided.{HasTenuresTable}

pub departments_scan : (n : SchemaVersion) → Selects (schema_of n) (departments_select n []) (table_scan departments_tree [] (department_terms n))
unfolding understood everything
departments_scan First = record { names = names_of departments; is = refl; plain = (refl, refl); unlisted = refl }
departments_scan Second = record { names = names_of departments; is = refl; plain = (refl, refl); unlisted = refl }
departments_scan Third = record { names = names_of departments; is = refl; plain = (refl, refl); unlisted = refl }
departments_scan Fourth = record { names = names_of departments; is = refl; plain = (refl, refl); unlisted = refl }

pub departments_asks : (n : SchemaVersion) → Asks (schema_of n) (departments_select n [])
unfolding understood everything
departments_asks First = record { is = (omega (arith), refl, (refl, refl, refl, refl)); unlisted = refl }
departments_asks Second = record { is = (omega (arith), refl, (refl, refl, refl, refl)); unlisted = refl }
departments_asks Third = record { is = (omega (arith), refl, (refl, refl, refl, refl)); unlisted = refl }
departments_asks Fourth = record { is = (omega (arith), refl, (refl, refl, refl, refl)); unlisted = refl }

-- it shows the columns of each row
shown_columns : (n : SchemaVersion) (row : Row) → shows (department_terms n) [] row ≡ department_columns_as n row
shown_columns First row = refl
shown_columns Second row = refl
shown_columns Third row = refl
shown_columns Fourth row = refl

pub departments_shows : (n : SchemaVersion) (rows : List Row) → map (shows (department_terms n) []) rows ≡ map (department_columns_as n) rows
departments_shows n [] = refl
departments_shows n (row ∷ rows) = ap₂ (λ (r : Row) (rs : List Row). r ∷ rs) (shown_columns n row) (departments_shows n rows)

abbrev pub owned_text : List ℕ
owned_text = codes "SELECT e.id, e.marker, e.size, e.admitted, e.removed, b.dept FROM entries AS e LEFT JOIN buckets AS b ON b.name = e.bucket ORDER BY e.id"

abbrev pub owned_shown : List Term
owned_shown = col 1 0 ∷ col 1 4 ∷ col 1 5 ∷ col 1 7 ∷ col 1 10 ∷ col 2 2 ∷ []

abbrev pub owned_order : List (Term × Key)
owned_order = (col 1 0, ascending Binary) ∷ []

pub owned_is : (n : SchemaVersion) → (command_of (understood (schema_of n) owned_text) ≡ Select (record { lets = []; body = joined_of entries_tree buckets_tree 1 2 owned_shown owned_order }) (codes "id" ∷ codes "marker" ∷ codes "size" ∷ codes "admitted" ∷ codes "removed" ∷ codes "dept" ∷ []))
    × (reads_listing (schema_of n) owned_text ≡ false)
unfolding understood everything
owned_is n = (refl, refl)

pub owned_plain : (n : SchemaVersion) → IsPlain (understood (schema_of n) owned_text)
unfolding understood everything
owned_plain n = (refl, refl)

pub owned_asks : (n : SchemaVersion) → Asks (schema_of n) owned_text
unfolding understood everything
owned_asks n = record { is = (omega (arith), refl, (refl, refl, refl, refl)); unlisted = refl }

abbrev pub tenures_text : List ℕ
tenures_text = codes "SELECT t.id, t.n, t.dept, t.moment, e.size, e.removed FROM tenures AS t LEFT JOIN entries AS e ON e.id = t.id ORDER BY t.id, t.n"

abbrev pub tenures_shown : List Term
tenures_shown = col 1 1 ∷ col 1 2 ∷ col 1 3 ∷ col 1 4 ∷ col 2 5 ∷ col 2 10 ∷ []

abbrev pub tenures_order : List (Term × Key)
tenures_order = (col 1 1, ascending Binary) ∷ (col 1 2, ascending Binary) ∷ []

abbrev pub tenures_names : List (List ℕ)
tenures_names = codes "id" ∷ codes "n" ∷ codes "dept" ∷ codes "moment" ∷ codes "size" ∷ codes "removed" ∷ []

pub tenures_is : (n : SchemaVersion) → HasTenuresTable n → (command_of (understood (schema_of n) tenures_text) ≡ Select (record { lets = []; body = beside_of tenures_tree 1 tenures_shown tenures_order }) tenures_names)
    × (reads_listing (schema_of n) tenures_text ≡ false)
unfolding understood everything
tenures_is First has = absurd has
tenures_is Second has = absurd has
tenures_is Third has = (refl, refl)
tenures_is Fourth has = (refl, refl)

pub tenures_plain : (n : SchemaVersion) → HasTenuresTable n → IsPlain (understood (schema_of n) tenures_text)
unfolding understood everything
tenures_plain First has = absurd has
tenures_plain Second has = absurd has
tenures_plain Third has = (refl, refl)
tenures_plain Fourth has = (refl, refl)

pub tenures_asks : (n : SchemaVersion) → HasTenuresTable n → Asks (schema_of n) tenures_text
unfolding understood everything
tenures_asks First has = absurd has
tenures_asks Second has = absurd has
tenures_asks Third has = record { is = (omega (arith), refl, (refl, refl, refl, refl)); unlisted = refl }
tenures_asks Fourth has = record { is = (omega (arith), refl, (refl, refl, refl, refl)); unlisted = refl }
