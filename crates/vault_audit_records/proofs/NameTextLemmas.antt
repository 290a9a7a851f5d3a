-- What the walks by name read.
use Rattle.std.proofs.Common.{◌≡◌, List, ℕ, [], codes, drop, false, refl, arith}
use Rattle.sqlite_tied.specs.Compute.{everything}
use Rattle.sqlite.specs.Command.TheVariants.{Select}
use Rattle.sqlite.specs.Listing.{understood, reads_listing}
use Rattle.sqlite.proofs.Callers.{IsPlain, command_of}
use Rattle.vault_audit_model.specs.Tables.{schema_of, callers, callers_tree, departments, departments_tree}
use Rattle.vault_audit_schema.specs.Selects.{departments_select, department_terms}
use Rattle.vault_audit_schema.specs.Texts.{names_of, select_text, terms_of}
use Rattle.vault_audit_rows.proofs.ScanLemmas.{walk_of}
use Rattle.vault_audit_rows.specs.Health.{Asks}
use Rattle.vault_audit_model.specs.declared.schema.SchemaVersion.{SchemaVersion}
use Rattle.vault_audit_model.specs.declared.schema.SchemaVersion.TheVariants.{First, Second, Third, Fourth}

abbrev pub callers_walk : List ℕ
callers_walk = select_text callers (codes " ORDER BY name")

pub callers_walk_is : (n : SchemaVersion) → (command_of (understood (schema_of n) callers_walk) ≡ Select (record { lets = []; body = walk_of callers_tree 1 (drop 1 (terms_of callers)) }) (names_of callers))
    × (reads_listing (schema_of n) callers_walk ≡ false)
unfolding understood everything
callers_walk_is n = (refl, refl)

pub callers_walk_plain : (n : SchemaVersion) → IsPlain (understood (schema_of n) callers_walk)
unfolding understood everything
callers_walk_plain n = (refl, refl)

pub callers_walk_asks : (n : SchemaVersion) → Asks (schema_of n) callers_walk
unfolding understood everything
callers_walk_asks n = record { is = (omega (arith), refl, (refl, refl, refl, refl)); unlisted = refl }

-- by name
abbrev pub departments_walk : SchemaVersion → List ℕ
departments_walk n = departments_select n (codes " ORDER BY name")

pub departments_walk_is : (n : SchemaVersion) → (command_of (understood (schema_of n) (departments_walk n)) ≡ Select (record { lets = []; body = walk_of departments_tree 1 (drop 1 (department_terms n)) }) (names_of departments))
    × (reads_listing (schema_of n) (departments_walk n) ≡ false)
unfolding understood everything
departments_walk_is First = (refl, refl)
departments_walk_is Second = (refl, refl)
departments_walk_is Third = (refl, refl)
departments_walk_is Fourth = (refl, refl)

pub departments_walk_plain : (n : SchemaVersion) → IsPlain (understood (schema_of n) (departments_walk n))
unfolding understood everything
departments_walk_plain First = (refl, refl)
departments_walk_plain Second = (refl, refl)
departments_walk_plain Third = (refl, refl)
departments_walk_plain Fourth = (refl, refl)

pub departments_walk_asks : (n : SchemaVersion) → Asks (schema_of n) (departments_walk n)
unfolding understood everything
departments_walk_asks First = record { is = (omega (arith), refl, (refl, refl, refl, refl)); unlisted = refl }
departments_walk_asks Second = record { is = (omega (arith), refl, (refl, refl, refl, refl)); unlisted = refl }
departments_walk_asks Third = record { is = (omega (arith), refl, (refl, refl, refl, refl)); unlisted = refl }
departments_walk_asks Fourth = record { is = (omega (arith), refl, (refl, refl, refl, refl)); unlisted = refl }
