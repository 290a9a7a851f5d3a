-- What a line asks for that has no reading of its own: the clock's is put to it.
use Rattle.std.specs.Prelude.{ℕ, ◌≡◌, ◌≤◌, ◌==◌, ◌&&◌, nat_lt, ⊤, Bool, IsTrue, List, [], ◌∷◌, length, drop, codes, if◌then◌else◌, Option, Some, None, Result, Ok, Err}
use Rattle.std.specs.Str.{bytes_eq}
use Rattle.serde_json.specs.Data.{Data}
use Rattle.vault_base.specs.declared.refusal.Refusal.{Refusal}
use Rattle.vault_base.specs.declared.refusal.Refusal.TheVariants.{ClockOutOfRange, MalformedBody}
use Rattle.vault_base.specs.Limits.{longest_line}
use Rattle.vault_core_model.specs.declared.command.Timed.{Timed}
use Rattle.vault_lines_json.specs.Document.{document_of, json_of}
use Rattle.vault_lines_json.specs.Members.{text_of}
use Rattle.vault_lines_json.specs.Shape.{has_members}
use Rattle.vault_lines_json.specs.Spelling.{IsName}
use Rattle.vault_lines_json.specs.Values.{asker_of}
use Rattle.vault_lines_json.specs.declared.shape.Kind.{Kind}
use Rattle.vault_lines_json.specs.declared.shape.Kind.TheVariants.{Text}
use Rattle.vault_values.specs.Fault.{◌>>=◌}
use Rattle.vault_lines_read.specs.Grammar.{IsDo, SpellsCommand}
use Rattle.vault_lines_read.specs.ReadLine.{if_passes, stated, without_cr}
use Rattle.vault_lines_read.specs.Verb.{has_single_content, members_of, values_of, verb_named}
use Rattle.vault_lines_read.specs.declared.read_line.Line.{Line}
use Rattle.vault_lines_read.specs.declared.read_line.Line.TheVariants as line
use Rattle.vault_lines_read.specs.declared.verb.Verb.{Verb}

-- the members of a line without its first, the reading
abbrev pub timeless_of : Verb → List (List ℕ × Kind)
timeless_of verb = drop 1 (members_of verb)

abbrev pub has_timeless : Verb → Data → Bool
has_timeless verb d = has_members (timeless_of verb) d

-- the value is an object of just these members
abbrev pub is_timeless : Verb → Data → Bool
is_timeless verb d = has_timeless verb d && has_single_content verb d

-- the verb, if the value has the shape of its line
unfoldable pub timeless_verb_of : Data → Result Verb Refusal
timeless_verb_of d = do
  name ← text_of (codes "do") d
  if_passes is_timeless (verb_named name) d

-- the moment that the clock shows
abbrev pub clock_of : Option ℕ → Result ℕ Refusal
clock_of None = Err ClockOutOfRange
clock_of (Some at) = Ok at

-- the shape, then the clock, the caller who asks, and the values of the command
unfoldable pub stamped_of : Option ℕ → Data → Result Timed Refusal
stamped_of moment d = do
  verb ← timeless_verb_of d
  at ← clock_of moment
  who ← asker_of d
  command ← values_of verb d
  Ok (record { at = at; who = who; command = command })

unfoldable pub stamped_command_of : Option ℕ → List ℕ → Result Timed Refusal
stamped_command_of moment bytes = do
  d ← document_of bytes
  stamped_of moment d

-- what is asked by a line as it stands before its LF, at what the clock shows
unfoldable pub stamped_line_of : Option ℕ → List ℕ → Line
stamped_line_of moment bytes =
    if nat_lt longest_line (length bytes) then line.Refused MalformedBody
    else if length (without_cr bytes) == 0 then line.Skip
    else stated (stamped_command_of moment (without_cr bytes))

-- ---- the line that asks for the end

-- the members of a line that asks for nothing more: the caller who asks, and `do`
abbrev pub asking_members : List (List ℕ × Kind)
asking_members = (codes "as", Text) ∷ (codes "do", Text) ∷ []

-- the value is an object of just these, whose `do` is `close`
abbrev pub if_closing : List ℕ → Data → Result ⊤ Refusal
if_closing name d = if has_members asking_members d && bytes_eq name (codes "close") then Ok tt else Err MalformedBody

unfoldable pub closing_asker_of : List ℕ → Result (List ℕ) Refusal
closing_asker_of bytes = do
  d ← document_of bytes
  name ← text_of (codes "do") d
  _ ← if_closing name d
  asker_of d

abbrev pub if_ok : Result (List ℕ) Refusal → Option (List ℕ)
if_ok (Ok who) = Some who
if_ok (Err r) = None

-- the caller who asks for the end by a line as it stands before its LF; none by another line
unfoldable pub closer_of : List ℕ → Option (List ℕ)
closer_of bytes = if nat_lt longest_line (length bytes) then None else if_ok (closing_asker_of (without_cr bytes))

-- ---- the grammar

-- the value is an object with just the members of the line of its `do`, but for the reading
abbrev pub HasTimelessForm : Data → Type 0
HasTimelessForm d = (verb : Verb) × IsDo d verb × IsTrue (is_timeless verb d)

-- the line is the JSON of such an object, its members spell that command, and the clock shows its moment
abbrev pub IsStampedLineOf : Option ℕ → List ℕ → Timed → Type 0
IsStampedLineOf moment bytes t =
    (length bytes ≤ longest_line) × ((d : Data) × (json_of (without_cr bytes) ≡ Some d) × HasTimelessForm d × (moment ≡ Some t.at) × IsName d (codes "as") t.who × SpellsCommand d t.command)

-- the line is the JSON of such an object
abbrev pub HasTimelessShape : List ℕ → Type 0
HasTimelessShape bytes =
    (length bytes ≤ longest_line) × ((d : Data) × (json_of (without_cr bytes) ≡ Some d) × HasTimelessForm d)
