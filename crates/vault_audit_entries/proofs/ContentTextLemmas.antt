-- What the statements on contents read.
use Rattle.std.proofs.Common.{◌≡◌, List, ℕ, [], ◌∷◌, codes, false, refl, arith}
use Rattle.sqlite_tied.specs.Compute.{everything}
use Rattle.sqlite_value.specs.Keys.{ascending}
use Rattle.sqlite_value.specs.declared.keys.Collation.TheVariants.{Binary}
use Rattle.sqlite.specs.Command.TheVariants.{Select}
use Rattle.sqlite.specs.Listing.{understood, reads_listing}
use Rattle.sqlite.proofs.Callers.{IsPlain, command_of}
use Rattle.sqlite_sql.specs.Term.{Term, col}
use Rattle.vault_audit_model.specs.Queries.{table_scan, Selects}
use Rattle.vault_audit_model.specs.Tables.{schema_of, contents_tree}
use Rattle.vault_audit_entries.proofs.JoinLemmas.{beside_of}
use Rattle.vault_audit_rows.specs.Health.{Asks}
use Rattle.vault_audit_model.specs.declared.schema.SchemaVersion.{SchemaVersion}

abbrev pub contents_walk : List ℕ
contents_walk = codes "SELECT c.id, c.bytes, e.size, e.digest, e.removed FROM contents AS c LEFT JOIN entries AS e ON e.id = c.id ORDER BY c.id"

abbrev pub contents_shown : List Term
contents_shown = col 1 0 ∷ col 1 2 ∷ col 2 5 ∷ col 2 6 ∷ col 2 10 ∷ []

pub contents_walk_is : (n : SchemaVersion) → (command_of (understood (schema_of n) contents_walk) ≡ Select (record { lets = []; body = beside_of contents_tree 0 contents_shown ((col 1 0, ascending Binary) ∷ []) }) (codes "id" ∷ codes "bytes" ∷ codes "size" ∷ codes "digest" ∷ codes "removed" ∷ []))
    × (reads_listing (schema_of n) contents_walk ≡ false)
unfolding understood everything
contents_walk_is n = (refl, refl)

pub contents_walk_plain : (n : SchemaVersion) → IsPlain (understood (schema_of n) contents_walk)
unfolding understood everything
contents_walk_plain n = (refl, refl)

pub contents_walk_asks : (n : SchemaVersion) → Asks (schema_of n) contents_walk
unfolding understood everything
contents_walk_asks n = record { is = (omega (arith), refl, (refl, refl, refl, refl)); unlisted = refl }

abbrev pub held_text : List ℕ
held_text = codes "SELECT marker, removed FROM entries"

pub held_scan : (n : SchemaVersion) → Selects (schema_of n) held_text (table_scan 9 [] (col 1 4 ∷ col 1 10 ∷ []))
unfolding understood everything
held_scan n = record { names = codes "marker" ∷ codes "removed" ∷ []; is = refl; plain = (refl, refl); unlisted = refl }

pub held_asks : (n : SchemaVersion) → Asks (schema_of n) held_text
unfolding understood everything
held_asks n = record { is = (omega (arith), refl, (refl, refl, refl, refl)); unlisted = refl }
