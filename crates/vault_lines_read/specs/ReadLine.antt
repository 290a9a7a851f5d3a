-- What a line asks for.
use Rattle.std.specs.Prelude.{ℕ, ◌-◌, ◌==◌, nat_lt, List, length, take, slice_index, codes, Bool, if◌then◌else◌, Option, Some, None, Result, Ok, Err}
use Rattle.serde_json.specs.Data.{Data}
use Rattle.vault_base.specs.declared.refusal.Refusal.{Refusal}
use Rattle.vault_base.specs.declared.refusal.Refusal.TheVariants.{MalformedBody}
use Rattle.vault_base.specs.Limits.{longest_line}
use Rattle.vault_core_model.specs.declared.command.Timed.{Timed}
use Rattle.vault_lines_json.specs.Document.{document_of}
use Rattle.vault_values.specs.Fault.{◌>>=◌}
use Rattle.vault_lines_json.specs.Members.{text_of}
use Rattle.vault_lines_json.specs.Values.{reading_of, asker_of}
use Rattle.vault_lines_read.specs.Verb.{verb_named, is_shaped, values_of}
use Rattle.vault_lines_read.specs.declared.verb.Verb.{Verb}
use Rattle.vault_lines_read.specs.declared.read_line.Line.{Line}
use Rattle.vault_lines_read.specs.declared.read_line.Line.TheVariants as line

-- the verb, if the value passes its test
abbrev pub if_passes : (Verb → Data → Bool) → Option Verb → Data → Result Verb Refusal
if_passes test None d = Err MalformedBody
if_passes test (Some verb) d = if test verb d then Ok verb else Err MalformedBody

-- the verb, if the value has the shape of its line
unfoldable pub verb_of : Data → Result Verb Refusal
verb_of d = do
  name ← text_of (codes "do") d
  if_passes is_shaped (verb_named name) d

-- the shape, then the reading, the caller who asks, and the values of the command
unfoldable pub timed_of : Data → Result Timed Refusal
timed_of d = do
  verb ← verb_of d
  at ← reading_of d
  who ← asker_of d
  command ← values_of verb d
  Ok (record { at = at; who = who; command = command })

unfoldable pub command_of : List ℕ → Result Timed Refusal
command_of bytes = do
  d ← document_of bytes
  timed_of d

-- a CR in front of the LF isn't the line's
abbrev pub without_cr : List ℕ → List ℕ
without_cr line = if slice_index line (length line - 1) == 13 then take (length line - 1) line else line

abbrev pub stated : Result Timed Refusal → Line
stated (Ok t) = line.Command t
stated (Err r) = line.Refused r

-- what is asked by a line as it stands before its LF
unfoldable pub line_of : List ℕ → Line
line_of bytes =
    if nat_lt longest_line (length bytes) then line.Refused MalformedBody
    else if length (without_cr bytes) == 0 then line.Skip
    else stated (command_of (without_cr bytes))
