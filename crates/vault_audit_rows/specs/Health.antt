-- A store that works, texts that it answers for as long as it does, and what a look at its tables leaves.
use Rattle.std.specs.Prelude.{◌≡◌, ◌≤◌, ℕ, true, false, List, [], length, Result, Ok, Err, None, IsTrue, OnOk}
use Rattle.sqlite_sql.specs.Query.{has_no_fold}
use Rattle.sqlite_schema.specs.declared.schema.Schema.{Schema}
use Rattle.sqlite_schema.specs.declared.command.Command.{Command}
use Rattle.sqlite_schema.specs.declared.command.Command.TheVariants.{Select}
use Rattle.sqlite_schema.specs.Program.{lets_of}
use Rattle.sqlite_typing.specs.Types.{accepts_program}
use Rattle.sqlite_resolve.specs.declared.compiled.Compiled.{Compiled}
use Rattle.sqlite_resolve.specs.declared.error.CompileError.{CompileError}
use Rattle.sqlite.specs.declared.error.ErrorCode.TheVariants.{OutOfMemory}
use Rattle.sqlite.specs.declared.error.Error.{Error}
use Rattle.sqlite.specs.declared.error.Error.TheVariants.{SqliteFailure}
use Rattle.sqlite.specs.Listing.{understood, reads_listing}
use Rattle.sqlite.specs.State.{State, HasCleanDisk, IsUnchanged, Survives}
use Rattle.sqlite_trees.specs.declared.store.Store.{Ghosts}
use Rattle.sqlite.specs.Held.{Held, state}
use Rattle.vault_audit_model.specs.declared.schema.SchemaVersion.{SchemaVersion}
use Rattle.vault_audit_model.specs.Tables.{schema_of}

-- the disk returns what was written and has refused nothing, the connection is open, and no query has a limit on its steps
pub record IsHealthy (s : State) : Type 0 where
  pub clean : HasCleanDisk s
  pub unfailed : s.faults ≡ 0
  pub is_open : IsTrue s.is_open
  pub unlimited : s.step_limit ≡ None

-- the error is out of memory
abbrev pub IsMemory : Error → Type 0
IsMemory e = e ≡ SqliteFailure OutOfMemory

-- the command is a query with values of the types that the tables have, and it sums nothing
abbrev pub IsAnswerable : Schema → Command → Type 0
IsAnswerable schema (Select p columns) = (lets_of p ≡ []) × (accepts_program schema [] p.body [] ≡ true) × (p.body.group ≡ None) × (has_no_fold p.body.from ≡ true)
IsAnswerable schema _ = ⊥

-- the text is one such query, without parameters
abbrev pub IsRead : Schema → List ℕ → Result Compiled CompileError → Type 0
IsRead schema sql (Ok c) = (length sql ≤ c.tail) × (c.names ≡ []) × IsAnswerable schema c.command
IsRead schema sql (Err e) = ⊥

-- such a text, that asks for rows of the tables, and not for the list of these
pub record Asks (schema : Schema) (sql : List ℕ) : Type 0 where
  pub is : IsRead schema sql (understood schema sql)
  pub unlisted : reads_listing schema sql ≡ false

-- unless the disk returned what wasn't written, the tables have the schema of this schema version
abbrev pub IsOfSchemaVersion : {S : Type 0} → Ghosts S → Held S → SchemaVersion → Type 0
IsOfSchemaVersion g h schema_version = HasCleanDisk (state g h) → (state g h).now.schema ≡ schema_of schema_version

-- a look changes nothing: where it is answered the connection is as it was, and a crash leaves what it left before
pub record OnlyLooks {S A E : Type 0} (g : Ghosts S) (old new : Held S) (result : Result A E) : Type 0 where
  pub same : HasCleanDisk (state g new) → OnOk result (IsUnchanged (state g old) (state g new))
  pub crash : Survives (state g old) (state g new) (λ _. ⊥)
