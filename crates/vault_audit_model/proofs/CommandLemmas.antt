-- What a text says, as the lemmas of `sqlite` have it.
use Rattle.std.proofs.Common.{◌≡◌, ℕ, List, [], Result, Ok, Err, refl, ◌∙◌}
use Rattle.sqlite_sql.specs.Query.{Query}
use Rattle.sqlite_schema.specs.declared.schema.Schema.{Schema}
use Rattle.sqlite_schema.specs.declared.command.Command.TheVariants.{Select}
use Rattle.sqlite_resolve.specs.declared.compiled.Compiled.{Compiled}
use Rattle.sqlite_resolve.specs.declared.error.CompileError.{CompileError}
use Rattle.sqlite.specs.Listing.{understood}
use Rattle.sqlite.proofs.Callers.{command_of, statement_of}
use Rattle.vault_audit_model.specs.Commands.{commanded, statement_in}
use Rattle.vault_audit_model.specs.Queries.{Selects}

pub commanded_is : (r : Result Compiled CompileError) → command_of r ≡ commanded r
commanded_is (Ok c) = refl
commanded_is (Err e) = refl

pub statement_is : (text : List ℕ) (r : Result Compiled CompileError) → statement_of text r ≡ statement_in text r
statement_is text (Ok c) = refl
statement_is text (Err e) = refl

-- the command of a text that is one query
pub meant : (schema : Schema) (sql : List ℕ) {q : Query} (it : Selects schema sql q) → command_of (understood schema sql) ≡ Select (record { lets = []; body = q }) it.names
meant schema sql it = commanded_is (understood schema sql) ∙ it.is
