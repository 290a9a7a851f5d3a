-- What the statement on heads reads.
use Rattle.std.proofs.Common.{◌≡◌, List, ℕ, [], ◌∷◌, codes, false, refl, arith}
use Rattle.sqlite_tied.specs.Compute.{everything}
use Rattle.sqlite_value.specs.Keys.{ascending}
use Rattle.sqlite_value.specs.declared.keys.Key.{Key}
use Rattle.sqlite_value.specs.declared.keys.Collation.TheVariants.{Binary}
use Rattle.sqlite.specs.Command.TheVariants.{Select}
use Rattle.sqlite.specs.Listing.{understood, reads_listing}
use Rattle.sqlite.proofs.Callers.{IsPlain, command_of}
use Rattle.sqlite_sql.specs.Term.{Term, col}
use Rattle.vault_audit_model.specs.Tables.{schema_of, heads_tree}
use Rattle.vault_audit_entries.proofs.JoinLemmas.{beside_of}
use Rattle.vault_audit_rows.specs.Health.{Asks}
use Rattle.vault_audit_model.specs.declared.schema.SchemaVersion.{SchemaVersion}

abbrev pub heads_walk : List ℕ
heads_walk = codes "SELECT h.bucket, h.key, h.newest, h.count, e.bucket, e.key, e.removed FROM heads AS h LEFT JOIN entries AS e ON e.id = h.newest ORDER BY h.bucket, h.key"

abbrev pub heads_shown : List Term
heads_shown = col 1 1 ∷ col 1 2 ∷ col 1 3 ∷ col 1 4 ∷ col 2 2 ∷ col 2 3 ∷ col 2 10 ∷ []

abbrev pub heads_order : List (Term × Key)
heads_order = (col 1 1, ascending Binary) ∷ (col 1 2, ascending Binary) ∷ []

pub heads_walk_is : (n : SchemaVersion) → (command_of (understood (schema_of n) heads_walk) ≡ Select (record { lets = []; body = beside_of heads_tree 3 heads_shown heads_order }) (codes "bucket" ∷ codes "key" ∷ codes "newest" ∷ codes "count" ∷ codes "bucket" ∷ codes "key" ∷ codes "removed" ∷ []))
    × (reads_listing (schema_of n) heads_walk ≡ false)
unfolding understood everything
heads_walk_is n = (refl, refl)

pub heads_walk_plain : (n : SchemaVersion) → IsPlain (understood (schema_of n) heads_walk)
unfolding understood everything
heads_walk_plain n = (refl, refl)

pub heads_walk_asks : (n : SchemaVersion) → Asks (schema_of n) heads_walk
unfolding understood everything
heads_walk_asks n = record { is = (omega (arith), refl, (refl, refl, refl, refl)); unlisted = refl }
