-- Which lines there are words for.
use Rattle.std.specs.Prelude.{Bool, true, false}
use Rattle.vault_lines_read.specs.declared.read_line.Line.{Line}
use Rattle.vault_lines_read.specs.declared.read_line.Line.TheVariants as line

-- the line was refused
abbrev pub is_refused : Line → Bool
is_refused line.Skip = false
is_refused (line.Command t) = false
is_refused (line.Refused r) = true
