-- Where the head of a request ends, as its bytes come in.
use Rattle.std.specs.Prelude.{ℕ, ◌==◌, if◌then◌else◌}
use Rattle.vaultctl_serve.specs.declared.scan.Scan.{Scan}
use Rattle.vaultctl_serve.specs.declared.scan.Scan.TheVariants.{Leading, Within, Fresh, Ended}

-- how far a line has come with a byte, where an LF would lead there: a CR changes nothing, and any other byte is something in the line
abbrev pub along : Scan → Scan → ℕ → Scan
along scan ended byte = if byte == 10 then ended else (if byte == 13 then scan else Within)

-- one byte more
abbrev pub next : Scan → ℕ → Scan
next Leading byte = along Leading Leading byte
next Within byte = along Within Fresh byte
next Fresh byte = along Fresh Ended byte
next Ended byte = Ended
