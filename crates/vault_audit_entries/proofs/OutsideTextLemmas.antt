-- What the statements on external read.
use Rattle.std.proofs.Common.{◌≡◌, List, ℕ, pos, [], ◌∷◌, codes, false, refl, arith}
use Rattle.sqlite_tied.specs.Compute.{everything}
use Rattle.sqlite_value.specs.Keys.{ascending}
use Rattle.sqlite_value.specs.declared.keys.Collation.TheVariants.{Binary}
use Rattle.sqlite_value.specs.declared.value.Value.TheVariants.{Int}
use Rattle.sqlite.specs.Command.TheVariants.{Select}
use Rattle.sqlite.specs.Listing.{understood, reads_listing}
use Rattle.sqlite.proofs.Callers.{IsPlain, command_of}
use Rattle.sqlite_sql.specs.Term.{Term, col, lit}
use Rattle.vault_audit_model.specs.Queries.{Selects}
use Rattle.vault_audit_model.specs.Tables.{schema_of, contents_tree, external_tree}
use Rattle.vault_audit_model.specs.declared.schema.SchemaVersion.TheVariants.{Fourth}
use Rattle.vault_audit_entries.proofs.JoinLemmas.{beside_of}
use Rattle.vault_audit_rows.proofs.BesideLemmas.{beside_of as beside_other}
use Rattle.vault_audit_rows.specs.Health.{Asks}

abbrev pub outside_walk : List ℕ
outside_walk = codes "SELECT x.id, e.marker, e.removed FROM external AS x LEFT JOIN entries AS e ON e.id = x.id ORDER BY x.id"

abbrev pub outside_shown : List Term
outside_shown = col 1 0 ∷ col 2 4 ∷ col 2 10 ∷ []

pub outside_walk_is : (command_of (understood (schema_of Fourth) outside_walk) ≡ Select (record { lets = []; body = beside_of external_tree 0 outside_shown ((col 1 0, ascending Binary) ∷ []) }) (codes "id" ∷ codes "marker" ∷ codes "removed" ∷ []))
    × (reads_listing (schema_of Fourth) outside_walk ≡ false)
unfolding understood everything
outside_walk_is = (refl, refl)

pub outside_walk_plain : IsPlain (understood (schema_of Fourth) outside_walk)
unfolding understood everything
outside_walk_plain = (refl, refl)

pub outside_walk_asks : Asks (schema_of Fourth) outside_walk
unfolding understood everything
outside_walk_asks = record { is = (omega (arith), refl, (refl, refl, refl, refl)); unlisted = refl }

abbrev pub bytes_beside : List ℕ
bytes_beside = codes "SELECT 1 AS absent, c.id FROM external AS x LEFT JOIN contents AS c ON c.id = x.id"

pub bytes_beside_is : Selects (schema_of Fourth) bytes_beside (beside_other external_tree contents_tree (lit (Int (pos 1))) 0 0)
unfolding understood everything
bytes_beside_is = record { names = codes "absent" ∷ codes "id" ∷ []; is = refl; plain = (refl, refl); unlisted = refl }

pub bytes_beside_asks : Asks (schema_of Fourth) bytes_beside
unfolding understood everything
bytes_beside_asks = record { is = (omega (arith), refl, (refl, refl, refl, refl)); unlisted = refl }
