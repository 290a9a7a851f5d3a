-- What is written to a journal of one command.
use Rattle.std.specs.Prelude.{◌≡◌, ◌<◌, ◌⊎◌, ℕ, Bool, true, false, List, codes, length, Option}
use Rattle.std.specs.Io.KnownBytes.{Appends, Keeps}
use Rattle.vault_base.specs.Limits.{longest_line}
use Rattle.vault_core_model.specs.declared.command.Timed.{Timed}
use Rattle.vault_lines_read.specs.declared.read_line.Line.TheVariants as line
use Rattle.vault_lines_read.specs.ReadLine.{line_of}
use Rattle.vault_lines_print.specs.Lines.{SpellsTimed}
use Rattle.vault_io.specs.Begins.{Begins}
use Rattle.vaultctl_replay.specs.declared.state.JournalState.{JournalState}
use Rattle.vaultctl_replay.specs.declared.state.JournalState.TheVariants.{Open, Ended, Lost}
use Rattle.vaultctl_replay.specs.Lines.{HasNoLf, ended}

-- ---- one entry

-- the last line of a journal whose next change no line makes again
abbrev pub end_line : List ℕ
end_line = codes "# The journal ends here: no line makes the next change again."

-- a line, with its LF, that asks for the command
abbrev pub IsRecord : Timed → List ℕ → Type 0
IsRecord t bytes = (text : List ℕ) × HasNoLf text × (line_of text ≡ line.Command t) × (bytes ≡ ended text)

-- a line that spells the command is longer than a script's line may be
abbrev pub IsTooLong : Timed → Type 0
IsTooLong t = (text : List ℕ) × (longest_line < length text) × SpellsTimed text t

-- What is written of a change: its line; or the last line, where a fault cut the change or its line is too long.
abbrev pub IsEntry : Bool → Bool → Timed → List ℕ → Type 0
IsEntry false cut t text = (cut ≡ false) × IsRecord t text
IsEntry true cut t text = ((cut ≡ true) ⊎ IsTooLong t) × (text ≡ ended end_line)

-- ---- one command

-- more changes can be noted
abbrev pub is_open : JournalState → Bool
is_open Open = true
is_open Ended = false
is_open Lost = false

-- An entry was written, or a beginning of it.
abbrev pub Wrote : JournalState → Bool → List ℕ → Option (List ℕ) → Option (List ℕ) → Type 0
Wrote Open is_last text w w' = (is_last ≡ false) × Appends w w' text
Wrote Ended is_last text w w' = (is_last ≡ true) × Appends w w' text
Wrote Lost is_last text w w' = Begins w w' text

-- A change was noted: its entry was written, or a beginning of it, or nothing.
abbrev pub Noted : JournalState → Bool → Timed → Option (List ℕ) → Option (List ℕ) → Type 0
Noted Open cut t w w' = (text : List ℕ) × IsEntry false cut t text × Appends w w' text
Noted Ended cut t w w' = (text : List ℕ) × IsEntry true cut t text × Appends w w' text
Noted Lost cut t w w' = Keeps w w' ⊎ ((is_last : Bool) × (text : List ℕ) × IsEntry is_last cut t text × Begins w w' text)

-- A command was heard of, and is to be noted or not.
abbrev pub Hearing : Bool → JournalState → JournalState → Bool → Timed → Option (List ℕ) → Option (List ℕ) → Type 0
Hearing true before now cut t w w' = Noted now cut t w w'
Hearing false before now cut t w w' = (now ≡ before) × Keeps w w'
