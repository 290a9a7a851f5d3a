-- What an opening takes for a path, and what it is reported as that it fails.
use Rattle.std.specs.Prelude.{ℕ, nat_eq, ◌||◌, Bool, List, codes}
use Rattle.std.specs.List.{starts_with}
use Rattle.std.specs.Str.{bytes_eq}
use Rattle.sqlite.specs.declared.error.Error.{Error}
use Rattle.sqlite.specs.declared.error.Error.TheVariants.{SqliteFailure}
use Rattle.sqlite.specs.declared.error.ErrorCode.TheVariants as code
use Rattle.sqlite_store.specs.declared.error.OpenError.{OpenError}
use Rattle.sqlite_store.specs.declared.error.OpenError.TheVariants as opening
use Rattle.sqlite_wal.specs.declared.error.Error.{Error as LogError}
use Rattle.sqlite_wal.specs.declared.error.Error.TheVariants as log

-- a path that names something other than a file
abbrev pub is_no_path : List ℕ → Bool
is_no_path path = bytes_eq path (codes ":memory:") || starts_with nat_eq path (codes "file:")

-- the first page can't be made: files that hold something aren't written over
abbrev pub unmade_of : OpenError → Error
unmade_of opening.OutOfMemory = SqliteFailure code.OutOfMemory
unmade_of opening.Io = SqliteFailure code.SystemIoFailure
unmade_of opening.Full = SqliteFailure code.DiskFull
unmade_of opening.Refused = SqliteFailure code.NotADatabase

-- the first page, which was just written, can't be read
abbrev pub unread_of : Error → Error
unread_of (SqliteFailure code.OutOfMemory) = SqliteFailure code.OutOfMemory
unread_of _ = SqliteFailure code.SystemIoFailure

-- one can't see whether the files hold something
abbrev pub unprobed_of : LogError → Error
unprobed_of log.OutOfMemory = SqliteFailure code.OutOfMemory
unprobed_of (log.Io fault) = SqliteFailure code.SystemIoFailure
unprobed_of _ = SqliteFailure code.NotADatabase
