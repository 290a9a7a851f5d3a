-- What the second look at settings reads.
use Rattle.std.proofs.Common.{◌≡◌, List, ℕ, [], ◌∷◌, codes, drop, false, refl, arith}
use Rattle.sqlite_tied.specs.Compute.{everything}
use Rattle.sqlite.specs.Command.TheVariants.{Select}
use Rattle.sqlite.specs.Listing.{understood, reads_listing}
use Rattle.sqlite.proofs.Callers.{IsPlain, command_of}
use Rattle.sqlite_sql.specs.Term.{col}
use Rattle.vault_audit_model.specs.Queries.{Selects}
use Rattle.vault_audit_model.specs.Tables.{schema_of, settings, settings_tree}
use Rattle.vault_audit_schema.specs.Texts.{names_of, select_text, terms_of}
use Rattle.vault_audit_rows.proofs.PairLemmas.{pair_walk_of}
use Rattle.vault_audit_rows.proofs.BesideLemmas.{beside_of}
use Rattle.vault_audit_rows.specs.Health.{Asks}
use Rattle.vault_audit_model.specs.declared.schema.SchemaVersion.{SchemaVersion}

abbrev pub placed_walk : List ℕ
placed_walk = select_text settings (codes " ORDER BY id, n")

pub placed_walk_is : (n : SchemaVersion) → (command_of (understood (schema_of n) placed_walk) ≡ Select (record { lets = []; body = pair_walk_of settings_tree 1 2 (drop 2 (terms_of settings)) }) (names_of settings))
    × (reads_listing (schema_of n) placed_walk ≡ false)
unfolding understood everything
placed_walk_is n = (refl, refl)

pub placed_walk_plain : (n : SchemaVersion) → IsPlain (understood (schema_of n) placed_walk)
unfolding understood everything
placed_walk_plain n = (refl, refl)

pub placed_walk_asks : (n : SchemaVersion) → Asks (schema_of n) placed_walk
unfolding understood everything
placed_walk_asks n = record { is = (omega (arith), refl, (refl, refl, refl, refl)); unlisted = refl }

abbrev pub settings_beside : List ℕ
settings_beside = codes "SELECT e.marker, s.id FROM entries AS e LEFT JOIN settings AS s ON s.id = e.id"

pub settings_beside_is : (n : SchemaVersion) → Selects (schema_of n) settings_beside (beside_of 9 settings_tree (col 1 4) 1 0)
unfolding understood everything
settings_beside_is n = record { names = codes "marker" ∷ codes "id" ∷ []; is = refl; plain = (refl, refl); unlisted = refl }

pub settings_beside_asks : (n : SchemaVersion) → Asks (schema_of n) settings_beside
unfolding understood everything
settings_beside_asks n = record { is = (omega (arith), refl, (refl, refl, refl, refl)); unlisted = refl }
