-- What the statement that puts one row into a table means over the tables of each vault.
use Rattle.std.proofs.Common.{◌≡◌, Bool, true, false, IsTrue, refl, sym, true≢false}
use Rattle.sqlite_tied.specs.Compute.{everything}
use Rattle.sqlite_resolve.specs.declared.error.CompileError.TheVariants.{NoSuchTable}
use Rattle.sqlite.specs.Listing.{listing_schema, understood}
use Rattle.vault_base.specs.declared.refusal.Table.{Table}
use Rattle.vault_base.specs.declared.refusal.Table.TheVariants as table
use Rattle.vault_audit_model.specs.Tables.{vault_schema}
use Rattle.vault_audit_schema.specs.Texts.{insert_text}
use Rattle.vault_store_edits.specs.Inserts.{IsInsertion}
use Rattle.vault_store_edits.specs.Queries.{IsUnknown}
use Rattle.vault_store_edits.specs.Trees.{has_table, made_as}

pub insertion : (external : Bool) (t : Table) → IsTrue (has_table external t) → IsInsertion external t (made_as external t)
unfolding understood everything
insertion false table.Meta there = record { there = refl; command = refl; plain = (refl, refl); places = λ limit mode row text db out h. h }
insertion false table.Departments there = record { there = refl; command = refl; plain = (refl, refl); places = λ limit mode row text db out h. h }
insertion false table.Callers there = record { there = refl; command = refl; plain = (refl, refl); places = λ limit mode row text db out h. h }
insertion false table.Buckets there = record { there = refl; command = refl; plain = (refl, refl); places = λ limit mode row text db out h. h }
insertion false table.Rules there = record { there = refl; command = refl; plain = (refl, refl); places = λ limit mode row text db out h. h }
insertion false table.Entries there = record { there = refl; command = refl; plain = (refl, refl); places = λ limit mode row text db out h. h }
insertion false table.Contents there = record { there = refl; command = refl; plain = (refl, refl); places = λ limit mode row text db out h. h }
insertion false table.Settings there = record { there = refl; command = refl; plain = (refl, refl); places = λ limit mode row text db out h. h }
insertion false table.Intake there = record { there = refl; command = refl; plain = (refl, refl); places = λ limit mode row text db out h. h }
insertion false table.Heads there = record { there = refl; command = refl; plain = (refl, refl); places = λ limit mode row text db out h. h }
insertion false table.Tenures there = record { there = refl; command = refl; plain = (refl, refl); places = λ limit mode row text db out h. h }
insertion false table.External there = absurd (true≢false (sym there))
insertion true table.Meta there = record { there = refl; command = refl; plain = (refl, refl); places = λ limit mode row text db out h. h }
insertion true table.Departments there = record { there = refl; command = refl; plain = (refl, refl); places = λ limit mode row text db out h. h }
insertion true table.Callers there = record { there = refl; command = refl; plain = (refl, refl); places = λ limit mode row text db out h. h }
insertion true table.Buckets there = record { there = refl; command = refl; plain = (refl, refl); places = λ limit mode row text db out h. h }
insertion true table.Rules there = record { there = refl; command = refl; plain = (refl, refl); places = λ limit mode row text db out h. h }
insertion true table.Entries there = record { there = refl; command = refl; plain = (refl, refl); places = λ limit mode row text db out h. h }
insertion true table.Contents there = record { there = refl; command = refl; plain = (refl, refl); places = λ limit mode row text db out h. h }
insertion true table.Settings there = record { there = refl; command = refl; plain = (refl, refl); places = λ limit mode row text db out h. h }
insertion true table.Intake there = record { there = refl; command = refl; plain = (refl, refl); places = λ limit mode row text db out h. h }
insertion true table.Heads there = record { there = refl; command = refl; plain = (refl, refl); places = λ limit mode row text db out h. h }
insertion true table.Tenures there = record { there = refl; command = refl; plain = (refl, refl); places = λ limit mode row text db out h. h }
insertion true table.External there = record { there = refl; command = refl; plain = (refl, refl); places = λ limit mode row text db out h. h }

-- it isn't understood where the vault lacks the table
pub not_insertion : (external : Bool) (t : Table) → has_table external t ≡ false → IsUnknown (vault_schema external) (insert_text (made_as external t))
unfolding understood listing_schema everything
not_insertion false table.Meta lacks = absurd (true≢false lacks)
not_insertion false table.Departments lacks = absurd (true≢false lacks)
not_insertion false table.Callers lacks = absurd (true≢false lacks)
not_insertion false table.Buckets lacks = absurd (true≢false lacks)
not_insertion false table.Rules lacks = absurd (true≢false lacks)
not_insertion false table.Entries lacks = absurd (true≢false lacks)
not_insertion false table.Contents lacks = absurd (true≢false lacks)
not_insertion false table.Settings lacks = absurd (true≢false lacks)
not_insertion false table.Intake lacks = absurd (true≢false lacks)
not_insertion false table.Heads lacks = absurd (true≢false lacks)
not_insertion false table.Tenures lacks = absurd (true≢false lacks)
not_insertion false table.External lacks = (NoSuchTable, refl)
not_insertion true table.Meta lacks = absurd (true≢false lacks)
not_insertion true table.Departments lacks = absurd (true≢false lacks)
not_insertion true table.Callers lacks = absurd (true≢false lacks)
not_insertion true table.Buckets lacks = absurd (true≢false lacks)
not_insertion true table.Rules lacks = absurd (true≢false lacks)
not_insertion true table.Entries lacks = absurd (true≢false lacks)
not_insertion true table.Contents lacks = absurd (true≢false lacks)
not_insertion true table.Settings lacks = absurd (true≢false lacks)
not_insertion true table.Intake lacks = absurd (true≢false lacks)
not_insertion true table.Heads lacks = absurd (true≢false lacks)
not_insertion true table.Tenures lacks = absurd (true≢false lacks)
not_insertion true table.External lacks = absurd (true≢false lacks)
