-- What the statement on intake reads.
use Rattle.std.proofs.Common.{◌≡◌, List, ℕ, [], ◌∷◌, codes, false, refl, arith}
use Rattle.sqlite_tied.specs.Compute.{everything}
use Rattle.sqlite_value.specs.Keys.{ascending}
use Rattle.sqlite_value.specs.declared.keys.Key.{Key}
use Rattle.sqlite_value.specs.declared.keys.Collation.TheVariants.{Binary}
use Rattle.sqlite.specs.Command.TheVariants.{Select}
use Rattle.sqlite.specs.Listing.{understood, reads_listing}
use Rattle.sqlite.proofs.Callers.{IsPlain, command_of}
use Rattle.sqlite_sql.specs.Term.{Term, col}
use Rattle.vault_audit_model.specs.Tables.{schema_of, intake_tree}
use Rattle.vault_audit_entries.proofs.JoinLemmas.{beside_of}
use Rattle.vault_audit_rows.specs.Health.{Asks}
use Rattle.vault_audit_model.specs.declared.schema.SchemaVersion.{SchemaVersion}

abbrev pub notes_walk : List ℕ
notes_walk = codes "SELECT n.bucket, n.batch, n.line, n.key, n.size, n.digest, n.mode, n.until, n.hold, n.id, e.bucket, e.key, e.size, e.digest FROM intake AS n LEFT JOIN entries AS e ON e.id = n.id ORDER BY n.bucket, n.batch, n.line"

abbrev pub notes_shown : List Term
notes_shown = col 1 1 ∷ col 1 2 ∷ col 1 3 ∷ col 1 4 ∷ col 1 5 ∷ col 1 6 ∷ col 1 7 ∷ col 1 8 ∷ col 1 9 ∷ col 1 10 ∷ col 2 2 ∷ col 2 3 ∷ col 2 5 ∷ col 2 6 ∷ []

abbrev pub notes_order : List (Term × Key)
notes_order = (col 1 1, ascending Binary) ∷ (col 1 2, ascending Binary) ∷ (col 1 3, ascending Binary) ∷ []

pub notes_walk_is : (n : SchemaVersion) → (command_of (understood (schema_of n) notes_walk) ≡ Select (record { lets = []; body = beside_of intake_tree 10 notes_shown notes_order }) (codes "bucket" ∷ codes "batch" ∷ codes "line" ∷ codes "key" ∷ codes "size" ∷ codes "digest" ∷ codes "mode" ∷ codes "until" ∷ codes "hold" ∷ codes "id" ∷ codes "bucket" ∷ codes "key" ∷ codes "size" ∷ codes "digest" ∷ []))
    × (reads_listing (schema_of n) notes_walk ≡ false)
unfolding understood everything
notes_walk_is n = (refl, refl)

pub notes_walk_plain : (n : SchemaVersion) → IsPlain (understood (schema_of n) notes_walk)
unfolding understood everything
notes_walk_plain n = (refl, refl)

pub notes_walk_asks : (n : SchemaVersion) → Asks (schema_of n) notes_walk
unfolding understood everything
notes_walk_asks n = record { is = (omega (arith), refl, (refl, refl, refl, refl)); unlisted = refl }
