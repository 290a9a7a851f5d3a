-- What a file in memory shows.
use Rattle.std.specs.Prelude.{List}
use Rattle.sqlite_disk.specs.Events.{Event}
use Rattle.vault_failing.specs.declared.device.memory_file.MemoryFile.{MemoryFile}

-- the calls that were made of it, the newest first
abbrev pub events_of : MemoryFile → List Event
events_of file = file.log.events
