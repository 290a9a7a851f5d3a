-- What the second look at buckets and rules reads.
use Rattle.std.proofs.Common.{◌≡◌, List, ℕ, [], ◌∷◌, codes, drop, pos, false, refl, arith}
use Rattle.sqlite_tied.specs.Compute.{everything}
use Rattle.sqlite.specs.Command.TheVariants.{Select}
use Rattle.sqlite.specs.Listing.{understood, reads_listing}
use Rattle.sqlite.proofs.Callers.{IsPlain, command_of}
use Rattle.sqlite_sql.specs.Term.{lit}
use Rattle.sqlite_value.specs.declared.value.Value.TheVariants.{Int}
use Rattle.vault_audit_model.specs.declared.schema.SchemaVersion.{SchemaVersion}
use Rattle.vault_audit_model.specs.declared.schema.SchemaVersion.TheVariants.{First, Second, Third, Fourth}
use Rattle.vault_audit_model.specs.Queries.{Selects}
use Rattle.vault_audit_model.specs.Tables.{schema_of, buckets, buckets_tree, rules, rules_tree}
use Rattle.vault_audit_schema.specs.Selects.{rules_select, rule_terms}
use Rattle.vault_audit_schema.specs.Texts.{names_of, select_text, terms_of}
use Rattle.vault_audit_rows.proofs.ScanLemmas.{walk_of}
use Rattle.vault_audit_rows.proofs.PairLemmas.{pair_walk_of}
use Rattle.vault_audit_rows.proofs.BesideLemmas.{beside_of}
use Rattle.vault_audit_rows.specs.Health.{Asks}

abbrev pub buckets_walk : List ℕ
buckets_walk = select_text buckets (codes " ORDER BY name")

pub buckets_walk_is : (n : SchemaVersion) → (command_of (understood (schema_of n) buckets_walk) ≡ Select (record { lets = []; body = walk_of buckets_tree 1 (drop 1 (terms_of buckets)) }) (names_of buckets))
    × (reads_listing (schema_of n) buckets_walk ≡ false)
unfolding understood everything
buckets_walk_is n = (refl, refl)

pub buckets_walk_plain : (n : SchemaVersion) → IsPlain (understood (schema_of n) buckets_walk)
unfolding understood everything
buckets_walk_plain n = (refl, refl)

pub buckets_walk_asks : (n : SchemaVersion) → Asks (schema_of n) buckets_walk
unfolding understood everything
buckets_walk_asks n = record { is = (omega (arith), refl, (refl, refl, refl, refl)); unlisted = refl }

-- by bucket and place
abbrev pub rules_walk : SchemaVersion → List ℕ
rules_walk n = rules_select n (codes " ORDER BY bucket, n")

pub rules_walk_is : (n : SchemaVersion) → (command_of (understood (schema_of n) (rules_walk n)) ≡ Select (record { lets = []; body = pair_walk_of rules_tree 1 2 (drop 2 (rule_terms n)) }) (names_of rules))
    × (reads_listing (schema_of n) (rules_walk n) ≡ false)
unfolding understood everything
rules_walk_is First = (refl, refl)
rules_walk_is Second = (refl, refl)
rules_walk_is Third = (refl, refl)
rules_walk_is Fourth = (refl, refl)

pub rules_walk_plain : (n : SchemaVersion) → IsPlain (understood (schema_of n) (rules_walk n))
unfolding understood everything
rules_walk_plain First = (refl, refl)
rules_walk_plain Second = (refl, refl)
rules_walk_plain Third = (refl, refl)
rules_walk_plain Fourth = (refl, refl)

pub rules_walk_asks : (n : SchemaVersion) → Asks (schema_of n) (rules_walk n)
unfolding understood everything
rules_walk_asks First = record { is = (omega (arith), refl, (refl, refl, refl, refl)); unlisted = refl }
rules_walk_asks Second = record { is = (omega (arith), refl, (refl, refl, refl, refl)); unlisted = refl }
rules_walk_asks Third = record { is = (omega (arith), refl, (refl, refl, refl, refl)); unlisted = refl }
rules_walk_asks Fourth = record { is = (omega (arith), refl, (refl, refl, refl, refl)); unlisted = refl }

abbrev pub buckets_beside : List ℕ
buckets_beside = codes "SELECT 0, b.name FROM rules AS r LEFT JOIN buckets AS b ON b.name = r.bucket"

pub buckets_beside_is : (n : SchemaVersion) → Selects (schema_of n) buckets_beside (beside_of 7 5 (lit (Int (pos 0))) 1 1)
unfolding understood everything
buckets_beside_is n = record { names = codes "0" ∷ codes "name" ∷ []; is = refl; plain = (refl, refl); unlisted = refl }

pub buckets_beside_asks : (n : SchemaVersion) → Asks (schema_of n) buckets_beside
unfolding understood everything
buckets_beside_asks n = record { is = (omega (arith), refl, (refl, refl, refl, refl)); unlisted = refl }
