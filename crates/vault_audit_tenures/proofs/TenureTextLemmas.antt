-- What the second look at tenures reads.
use Rattle.std.proofs.Common.{◌≡◌, List, ℕ, [], ◌∷◌, codes, false, refl, arith}
use Rattle.sqlite_tied.specs.Compute.{everything}
use Rattle.sqlite.specs.Command.TheVariants.{Select}
use Rattle.sqlite.specs.Listing.{understood, reads_listing}
use Rattle.sqlite.proofs.Callers.{IsPlain, command_of}
use Rattle.sqlite_sql.specs.Term.{col}
use Rattle.vault_audit_model.specs.declared.schema.SchemaVersion.TheVariants.{Third, First, Second, Fourth}
use Rattle.vault_audit_model.specs.Queries.{Selects}
use Rattle.vault_audit_model.specs.Tables.{schema_of, entries_tree, tenures_tree}
use Rattle.vault_audit_rows.proofs.BesideLemmas.{beside_of}
use Rattle.vault_audit_tenures.proofs.TenureJoinLemmas.{chain_query}
use Rattle.vault_audit_rows.specs.Health.{Asks}
use Rattle.vault_audit_tenures.specs.Decided.{HasTenuresTable}
use Rattle.vault_audit_model.specs.declared.schema.SchemaVersion.{SchemaVersion}

abbrev pub chain_text : List ℕ
chain_text = codes "SELECT t.id, t.n, t.dept, t.moment, e.admitted, e.removed, b.dept FROM tenures AS t LEFT JOIN entries AS e ON e.id = t.id LEFT JOIN buckets AS b ON b.name = e.bucket ORDER BY t.id, t.n"

pub chain_is : (n : SchemaVersion) → HasTenuresTable n → (command_of (understood (schema_of n) chain_text) ≡ Select (record { lets = []; body = chain_query }) (codes "id" ∷ codes "n" ∷ codes "dept" ∷ codes "moment" ∷ codes "admitted" ∷ codes "removed" ∷ codes "dept" ∷ []))
    × (reads_listing (schema_of n) chain_text ≡ false)
unfolding understood everything
chain_is First has = absurd has
chain_is Second has = absurd has
chain_is Third has = (refl, refl)
chain_is Fourth has = (refl, refl)

pub chain_plain : (n : SchemaVersion) → HasTenuresTable n → IsPlain (understood (schema_of n) chain_text)
unfolding understood everything
chain_plain First has = absurd has
chain_plain Second has = absurd has
chain_plain Third has = (refl, refl)
chain_plain Fourth has = (refl, refl)

pub chain_asks : (n : SchemaVersion) → HasTenuresTable n → Asks (schema_of n) chain_text
unfolding understood everything
chain_asks First has = absurd has
chain_asks Second has = absurd has
chain_asks Third has = record { is = (omega (arith), refl, (refl, refl, refl, refl)); unlisted = refl }
chain_asks Fourth has = record { is = (omega (arith), refl, (refl, refl, refl, refl)); unlisted = refl }

abbrev pub tenures_beside : List ℕ
tenures_beside = codes "SELECT e.marker, t.id FROM entries AS e LEFT JOIN tenures AS t ON t.id = e.id"

pub tenures_beside_is : (n : SchemaVersion) → HasTenuresTable n → Selects (schema_of n) tenures_beside (beside_of entries_tree tenures_tree (col 1 4) 1 0)
unfolding understood everything
tenures_beside_is First has = absurd has
tenures_beside_is Second has = absurd has
tenures_beside_is Third has = record { names = codes "marker" ∷ codes "id" ∷ []; is = refl; plain = (refl, refl); unlisted = refl }
tenures_beside_is Fourth has = record { names = codes "marker" ∷ codes "id" ∷ []; is = refl; plain = (refl, refl); unlisted = refl }

pub tenures_beside_asks : (n : SchemaVersion) → HasTenuresTable n → Asks (schema_of n) tenures_beside
unfolding understood everything
tenures_beside_asks First has = absurd has
tenures_beside_asks Second has = absurd has
tenures_beside_asks Third has = record { is = (omega (arith), refl, (refl, refl, refl, refl)); unlisted = refl }
tenures_beside_asks Fourth has = record { is = (omega (arith), refl, (refl, refl, refl, refl)); unlisted = refl }
