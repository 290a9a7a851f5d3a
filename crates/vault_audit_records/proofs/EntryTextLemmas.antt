-- What the second look at entries reads.
use Rattle.std.proofs.Common.{◌≡◌, List, ℕ, [], codes, drop, false, refl, arith}
use Rattle.sqlite_tied.specs.Compute.{everything}
use Rattle.sqlite.specs.Command.TheVariants.{Select}
use Rattle.sqlite.specs.Listing.{understood, reads_listing}
use Rattle.sqlite.proofs.Callers.{IsPlain, command_of}
use Rattle.vault_audit_model.specs.declared.schema.SchemaVersion.{SchemaVersion}
use Rattle.vault_audit_model.specs.Tables.{schema_of, entries, entries_tree}
use Rattle.vault_audit_schema.specs.Texts.{names_of, select_text, terms_of}
use Rattle.vault_audit_rows.proofs.ScanLemmas.{walk_of}
use Rattle.vault_audit_rows.specs.Health.{Asks}

abbrev pub numbers_walk : List ℕ
numbers_walk = select_text entries (codes " ORDER BY id")

pub numbers_walk_is : (n : SchemaVersion) → (command_of (understood (schema_of n) numbers_walk) ≡ Select (record { lets = []; body = walk_of entries_tree 0 (drop 1 (terms_of entries)) }) (names_of entries))
    × (reads_listing (schema_of n) numbers_walk ≡ false)
unfolding understood everything
numbers_walk_is n = (refl, refl)

pub numbers_walk_plain : (n : SchemaVersion) → IsPlain (understood (schema_of n) numbers_walk)
unfolding understood everything
numbers_walk_plain n = (refl, refl)

pub numbers_walk_asks : (n : SchemaVersion) → Asks (schema_of n) numbers_walk
unfolding understood everything
numbers_walk_asks n = record { is = (omega (arith), refl, (refl, refl, refl, refl)); unlisted = refl }
