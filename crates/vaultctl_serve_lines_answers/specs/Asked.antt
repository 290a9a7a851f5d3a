-- What a line of the second door asks for.
use Rattle.std.specs.Prelude.{ℕ, Bool, true, false, List, Option, Some, None, Result, Ok, Err, if◌then◌else◌}
use Rattle.vault_base.specs.declared.refusal.Refusal.{Refusal}
use Rattle.vault_base.specs.declared.refusal.Refusal.TheVariants.{ClockOutOfRange, MalformedBody}
use Rattle.vault_lines_read.specs.declared.read_line.Line.{Line}
use Rattle.vault_lines_read.specs.declared.read_line.Line.TheVariants as line
use Rattle.vault_lines_read.specs.Stamped.{closer_of, stamped_line_of}
use Rattle.vaultctl_serve_lines_answers.specs.Inquiry.{inquiry_of}
use Rattle.vaultctl_serve_lines_answers.specs.declared.inquiry.Inquiry.{Inquiry}
use Rattle.vaultctl_replay.specs.Lines.{is_cr}
use Rattle.vaultctl_serve_lines_answers.specs.declared.asked.DoorLine.{DoorLine}
use Rattle.vaultctl_serve_lines_answers.specs.declared.asked.DoorLine.TheVariants as door
use Rattle.vaultctl_serve_lines_answers.specs.declared.asked.Wanted.TheVariants as wanted

-- What is asked by a line as one of a command, at what the clock shows. A CR without an LF after it is a byte of the line, so a CR alone is no empty line.
abbrev pub heard_of : Bool → Option ℕ → List ℕ → Line
heard_of ended moment bytes = if ended then stamped_line_of moment bytes else (if is_cr bytes then line.Refused MalformedBody else stamped_line_of moment bytes)

abbrev pub is_malformed_by : Refusal → Bool
is_malformed_by MalformedBody = true
is_malformed_by _ = false

-- the line has another shape than that of a command
abbrev pub is_malformed : Line → Bool
is_malformed (line.Refused r) = is_malformed_by r
is_malformed line.Skip = false
is_malformed (line.Command t) = false

-- that caller asks for the end, at the moment that the clock shows
abbrev pub end_at : Option ℕ → List ℕ → DoorLine
end_at None who = door.Line (line.Refused ClockOutOfRange)
end_at (Some at) who = door.Asked (record { at = at; who = who; what = wanted.End })

abbrev pub about : Inquiry → DoorLine
about asked = door.Asked (record { at = asked.at; who = asked.who; what = wanted.About asked.about })

-- what is asked about, or the refusal of the line
abbrev pub about_or_refused : Result Inquiry Refusal → DoorLine
about_or_refused (Ok asked) = about asked
about_or_refused (Err r) = door.Line (line.Refused r)

-- the end, by the caller who asks for it; else what is asked about
abbrev pub end_or_about : Option (List ℕ) → Option ℕ → List ℕ → DoorLine
end_or_about (Some who) moment bytes = end_at moment who
end_or_about None moment bytes = about_or_refused (inquiry_of moment bytes)

-- what a line asks for that isn't the line of a command
abbrev pub unlike_command : Option ℕ → List ℕ → DoorLine
unlike_command moment bytes = end_or_about (closer_of bytes) moment bytes

abbrev pub door_line_by : Line → Option ℕ → List ℕ → DoorLine
door_line_by asked moment bytes = if is_malformed asked then unlike_command moment bytes else door.Line asked

-- what is asked for by a line: a command, or what is malformed as the line of one
abbrev pub door_line_of : Bool → Option ℕ → List ℕ → DoorLine
door_line_of ended moment bytes = door_line_by (heard_of ended moment bytes) moment bytes
