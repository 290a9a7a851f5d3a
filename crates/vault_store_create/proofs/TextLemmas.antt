-- What the statements mean.
use Rattle.std.proofs.Common.{◌≡◌, ℕ, pos, codes, Bool, List, [], ◌∷◌, true, false, refl}
use Rattle.sqlite_tied.specs.Compute.{everything}
use Rattle.sqlite.specs.Command.TheVariants.{Insert}
use Rattle.sqlite.specs.Term.{Term, lit}
use Rattle.sqlite.specs.Source.TheVariants.{Values}
use Rattle.sqlite.specs.declared.types.Value.TheVariants.{Null, Int, Text}
use Rattle.sqlite.specs.Listing.{understood}
use Rattle.sqlite.specs.Does.{lacks_sequence}
use Rattle.sqlite.proofs.Callers.{IsPlain, command_of}
use Rattle.vault_base.specs.declared.refusal.Table.{Table}
use Rattle.vault_base.specs.declared.refusal.Table.TheVariants as table
use Rattle.vault_audit_model.specs.Order.{place_of}
use Rattle.vault_audit_model.specs.Tables.{vault_schema, callers}
use Rattle.vault_audit_schema.specs.Statements.{schema_once}
use Rattle.vault_audit_schema.specs.Texts.{insert_into_text}
use Rattle.vault_store_create.specs.Listings.{first_meta}

-- no rows are counted after a table
pub uncounted : (external : Bool) (t : Table) → lacks_sequence (schema_once external t) ≡ false
unfolding everything
uncounted external table.Meta = refl
uncounted external table.Departments = refl
uncounted external table.Callers = refl
uncounted external table.Buckets = refl
uncounted external table.Rules = refl
uncounted external table.Entries = refl
uncounted external table.Contents = refl
uncounted external table.Settings = refl
uncounted external table.Intake = refl
uncounted external table.Heads = refl
uncounted external table.Tenures = refl
uncounted external table.External = refl

-- ---- the first rows

abbrev pub registrar_text : List ℕ
registrar_text = insert_into_text callers (codes " VALUES ('registrar', NULL, 1, 0)")

abbrev pub meta_row_terms : Bool → List Term
meta_row_terms false = lit (Int (pos 1)) ∷ lit Null ∷ lit (Int (pos 3)) ∷ lit (Int (pos 0)) ∷ lit (Int (pos 1)) ∷ lit (Int (pos 0)) ∷ []
meta_row_terms true =
    lit (Int (pos 1)) ∷ lit Null ∷ lit (Int (pos 4)) ∷ lit (Int (pos 0)) ∷ lit (Int (pos 1)) ∷ lit (Int (pos 0)) ∷ lit (Int (pos 0)) ∷ lit (Int (pos 1)) ∷ []

abbrev pub meta_row_width : Bool → ℕ
meta_row_width false = 6
meta_row_width true = 8

abbrev pub registrar_terms : List Term
registrar_terms = lit Null ∷ lit (Text (codes "registrar")) ∷ lit Null ∷ lit (Int (pos 1)) ∷ lit (Int (pos 0)) ∷ []

pub meta_row_is : (external : Bool) → command_of (understood (vault_schema external) (first_meta external)) ≡ Insert (place_of table.Meta) (Values (meta_row_terms external) (meta_row_width external))
unfolding understood everything
meta_row_is false = refl
meta_row_is true = refl

pub meta_row_plain : (external : Bool) → IsPlain (understood (vault_schema external) (first_meta external))
unfolding understood everything
meta_row_plain false = (refl, refl)
meta_row_plain true = (refl, refl)

pub registrar_is : (external : Bool) → command_of (understood (vault_schema external) registrar_text) ≡ Insert (place_of table.Callers) (Values registrar_terms 5)
unfolding understood everything
registrar_is false = refl
registrar_is true = refl

pub registrar_plain : (external : Bool) → IsPlain (understood (vault_schema external) registrar_text)
unfolding understood everything
registrar_plain false = (refl, refl)
registrar_plain true = (refl, refl)
