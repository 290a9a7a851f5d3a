-- What a text of SQL says, where it is understood.
use Rattle.std.specs.Prelude.{ℕ, List, [], Result, Ok, Err}
use Rattle.sqlite_schema.specs.declared.command.Command.{Command}
use Rattle.sqlite_schema.specs.declared.command.Command.TheVariants.{Nothing}
use Rattle.sqlite_resolve.specs.declared.compiled.Compiled.{Compiled}
use Rattle.sqlite_resolve.specs.declared.error.CompileError.{CompileError}
use Rattle.sqlite.specs.State.{text_of}

-- what it commands
abbrev pub commanded : Result Compiled CompileError → Command
commanded (Ok c) = c.command
commanded (Err e) = Nothing

-- the statement in it
abbrev pub statement_in : List ℕ → Result Compiled CompileError → List ℕ
statement_in text (Ok c) = text_of text c
statement_in text (Err e) = []
