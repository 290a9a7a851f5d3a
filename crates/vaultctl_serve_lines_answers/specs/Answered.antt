-- What a line of the second door is answered by: what is left of a keeper and what is written, beside what was before.
use Rattle.std.specs.Prelude.{ℕ, ◌≡◌, ◌⊎◌, List, [], ◌∷◌, Option, Result, Err}
use Rattle.vault_core_model.specs.Leaves.{Standing}
use Rattle.vault_core_model.specs.declared.command.Timed.{Timed}
use Rattle.vault_core_model.specs.declared.kept.Kept.{Ghosts}
use Rattle.vault_core_model.specs.declared.reply.Reply.{Reply}
use Rattle.vault_lines_read.specs.declared.read_line.Line.{Line}
use Rattle.vault_io.specs.Begins.{Begins}
use Rattle.vaultctl_replay.specs.Runs.{Began, Finished, HeardBy, Sent}
use Rattle.vaultctl_replay.specs.declared.fault.ReplayFault.{ReplayFault}
use Rattle.vaultctl_replay.specs.declared.fault.ReplayFault.TheVariants as faults
use Rattle.vaultctl_serve_lines_answers.specs.Asked.{door_line_of}
use Rattle.vaultctl_serve_lines_answers.specs.Asking.{Given, Written}
use Rattle.vaultctl_serve_lines_answers.specs.declared.asked.DoorLine.{DoorLine}
use Rattle.vaultctl_serve_lines_answers.specs.declared.asked.DoorLine.TheVariants as door
use Rattle.vaultctl_serve_lines_answers.specs.declared.heard.Heard.{Heard}
use Rattle.vaultctl_serve_lines_answers.specs.declared.line.Next.{Next}
use Rattle.vaultctl_serve_lines_answers.specs.declared.service.Service.{Service}

-- what is asked for was carried out, and its reply written
abbrev pub AnswersOne : Standing → Standing → Option (List ℕ) → Option (List ℕ) → Line → Type 0
AnswersOne old new w w' asked = Finished new.is_honest old.vault old.count w (asked ∷ []) new.vault new.count w'

-- it was carried out or not, and a beginning of its reply is written
abbrev pub LeavesOne : Standing → Standing → Option (List ℕ) → Option (List ℕ) → Line → Type 0
LeavesOne old new w w' asked = Began new.is_honest old.vault old.count w (asked ∷ []) new.vault new.count w'

-- a line was answered: it asks for a command, or for what only this door has
abbrev pub Answered : Service → Next → Standing → Standing → Option (List ℕ) → Option (List ℕ) → DoorLine → Type 0
Answered service after old new w w' (door.Line asked) = AnswersOne old new w w' asked
Answered service after old new w w' (door.Asked asked) = Given (Written after w w') old new service asked

-- the same of a line that was answered or not
abbrev pub Left : Service → Standing → Standing → Option (List ℕ) → Option (List ℕ) → DoorLine → Type 0
Left service old new w w' (door.Line asked) = LeavesOne old new w w' asked
Left service old new w w' (door.Asked asked) = Given (Begins w w') old new service asked

-- the same of a line as it was heard
abbrev pub LineAnswered : Service → Next → Standing → Standing → Option (List ℕ) → Option (List ℕ) → Option ℕ → Heard → Type 0
LineAnswered service after old new w w' moment heard =
    Answered service after old new w w' (door_line_of heard.is_ended moment heard.bytes.items)

abbrev pub LineLeft : Service → Standing → Standing → Option (List ℕ) → Option (List ℕ) → Option ℕ → Heard → Type 0
LineLeft service old new w w' moment heard =
    Left service old new w w' (door_line_of heard.is_ended moment heard.bytes.items)

module _ {K : Type 0} (g : Ghosts K) (old new : K) {J : Type 0} (hears : J → Timed → Reply → J → Type 0) (j j' : J) where
  -- the command of a line is heard of with its reply, of which this is to be written; of what only this door has nothing is
  abbrev pub DoorHeardBy : (List ℕ → Type 0) → DoorLine → Type 0
  DoorHeardBy Writes (door.Line asked) = HeardBy g old new hears j j' Writes asked
  DoorHeardBy Writes (door.Asked asked) = (g.vault new ≡ g.vault old) × (j' ≡ j)

  -- the same of a line as it was heard; or there was no room for it, and nothing was done
  abbrev pub LineHeardBy : {T : Type 0} → Result T ReplayFault → Option (List ℕ) → Option (List ℕ) → Option ℕ → Heard → Type 0
  LineHeardBy result w w' moment heard =
      ((result ≡ Err faults.Memory) × (g.vault new ≡ g.vault old) × (j' ≡ j) × (w' ≡ w))
      ⊎ DoorHeardBy (Sent result w w') (door_line_of heard.is_ended moment heard.bytes.items)
