-- The grammar of lines: which members the line of each `do` has, and what their values spell.
use Rattle.std.specs.Prelude.{◌≡◌, ◌≤◌, ℕ, List, length, codes, IsTrue, Some}
use Rattle.serde_json.specs.Data.{Data}
use Rattle.vault_base.specs.Limits.{longest_line}
use Rattle.vault_core_model.specs.declared.command.Command.{Command}
use Rattle.vault_core_model.specs.declared.command.Timed.{Timed}
use Rattle.vault_lines_json.specs.Document.{json_of}
use Rattle.vault_lines_json.specs.Spelling.{IsText, IsName, IsMoment}
use Rattle.vault_lines_read.specs.Fields.{IsMadeOf}
use Rattle.vault_lines_read.specs.ReadLine.{without_cr}
use Rattle.vault_lines_read.specs.Verb.{fields_of, form_of, verb_name, is_shaped}
use Rattle.vault_lines_read.specs.declared.verb.Verb.{Verb}

abbrev pub IsDo : Data → Verb → Type 0
IsDo d verb = IsText d (codes "do") (verb_name verb)

-- the value is an object with just the members of the line of its `do`, each of its kind
abbrev pub HasForm : Data → Type 0
HasForm d = (verb : Verb) × IsDo d verb × IsTrue (is_shaped verb d)

-- the members beside `at` and `as` are those of that command: it is made of what the fields of its line say
abbrev pub SpellsCommand : Data → Command → Type 0
SpellsCommand d c = (verb : Verb) × IsDo d verb × IsMadeOf d (fields_of verb) (form_of verb).2 c

-- the members spell that command, with its reading and the caller who asks
abbrev pub Spells : Data → Timed → Type 0
Spells d t = IsMoment d (codes "at") t.at × IsName d (codes "as") t.who × SpellsCommand d t.command

-- ---- lines

-- the line is the JSON of an object of just the members of its `do`, and these spell that command
abbrev pub IsLineOf : List ℕ → Timed → Type 0
IsLineOf bytes t =
    (length bytes ≤ longest_line) × ((d : Data) × (json_of (without_cr bytes) ≡ Some d) × HasForm d × Spells d t)

-- the line is the JSON of an object of just the members of its `do`
abbrev pub HasShape : List ℕ → Type 0
HasShape bytes =
    (length bytes ≤ longest_line) × ((d : Data) × (json_of (without_cr bytes) ≡ Some d) × HasForm d)
