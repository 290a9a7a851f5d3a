-- Lines as bytes.
use Rattle.std.specs.Prelude.{◌≡◌, ◌≢◌, ℕ, List, All, Some}
use Rattle.serde_json.specs.Data.{Data}
use Rattle.vault_core_model.specs.declared.command.Timed.{Timed}
use Rattle.vault_lines_json.specs.Document.{json_of}
use Rattle.vault_lines_read.specs.Grammar.{HasForm, Spells}
use Rattle.vault_lines_read.specs.ReadLine.{without_cr}

-- no byte is an LF
abbrev pub HasNoLf : List ℕ → Type 0
HasNoLf bytes = All (λ b. b ≢ 10) bytes

-- the line is an object of just the members that spell the command, however long it is
abbrev pub SpellsTimed : List ℕ → Timed → Type 0
SpellsTimed line t = (d : Data) × (json_of (without_cr line) ≡ Some d) × HasForm d × Spells d t
