-- What comes in at two doors, turn by turn.
use Rattle.std.specs.Prelude.{ℕ, ◌≡◌, ◌≤◌, ◌+◌, ◌⊎◌, Bool, true, List, [], ◌∷◌, length, Option, Some, None, Result, Ok, Err}
use Rattle.vault_core_model.specs.Vault.{Vault}
use Rattle.vaultctl_log.specs.declared.entry.Facts.{Facts}
use Rattle.vaultctl_log.specs.declared.entry.Trouble.{Trouble}
use Rattle.vaultctl_log.specs.declared.entry.Trouble.TheVariants as trouble
use Rattle.vaultctl_replay.specs.declared.fault.ReplayFault.{ReplayFault}
use Rattle.vaultctl_replay.specs.declared.fault.ReplayFault.TheVariants as faults
use Rattle.vault_core.specs.Hearing.{AtMostOne}
use Rattle.vaultctl_serve.specs.Account.{LogsOne}
use Rattle.vaultctl_serve.specs.Serving.{Missed, ReadsAs, SteppedAt, Taken, Tries, Try}
use Rattle.vaultctl_serve_lines.specs.declared.doors.Arrived.{Arrived}
use Rattle.vaultctl_serve_lines.specs.declared.doors.Arrived.TheVariants as arrived
use Rattle.vaultctl_serve_lines_answers.specs.declared.line.Next.{Next}
use Rattle.vaultctl_serve_lines_answers.specs.declared.line.Next.TheVariants as next
use Rattle.vaultctl_serve_lines.specs.declared.turns.Turn.{Turn}
use Rattle.vaultctl_serve_lines.specs.declared.turns.Turn.TheVariants as turn

-- a turn, and what the clock shows then; it takes something where a request or a line came
abbrev pub HasArrived : {P Q : Type 0} → Option (List Try) → Option (List Try) → Option ℕ → Arrived P Q → Type 0
HasArrived old new shown (arrived.Request peer) = Tries old new (Taken shown ∷ [])
HasArrived old new shown (arrived.Line heard talker) = Tries old new (Taken shown ∷ [])
HasArrived old new shown arrived.Nothing = Tries old new (Missed ∷ [])

-- at most one step is made, at what the clock shows
abbrev pub StepsAt : Option (List Try) → Option ℕ → Vault → Vault → Type 0
StepsAt known shown old new = (moment : Option ℕ) × ReadsAs known shown moment × AtMostOne moment old new

-- how many of the tries took something
abbrev pub taken_in : List Try → ℕ
taken_in [] = 0
taken_in (Taken moment ∷ later) = 1 + taken_in later
taken_in (Missed ∷ later) = taken_in later

-- this many turns took n requests and lines, and each made at most one step, at the clock's reading as it was taken
abbrev pub SteppedInTurns : ℕ → ℕ → Option (List Try) → Option (List Try) → Vault → Vault → Type 0
SteppedInTurns turns n before after old new =
    (tries : List Try) × (length tries ≡ turns) × (taken_in tries ≡ n) × Tries before after tries × SteppedAt tries old new

-- This holds of turns that took as many requests and lines as were counted; or fewer, where a line ended the server, where there were to be no more, or after 2^64 - 1 turns.
abbrev pub ServedInTurns : Next → Bool → ℕ → (ℕ → ℕ → Type 0) → Type 0
ServedInTurns ended going most Holds =
    (turns : ℕ) × (n : ℕ) × (n ≤ most) × (ended ≡ next.On → going ≡ true → (n ≡ most) ⊎ (turns ≡ 18446744073709551615)) × Holds turns n

-- What is heard of an entry is a relation, and so is that nothing is heard but of what couldn't be taken.
module _ {D : Type 0} (tries : D → Option (List Try)) (silent : D → D → Type 0) (logs : D → Facts → List ℕ → List ℕ → Bool → D → Type 0) where
  -- of each turn that took something one entry was heard of, of each other turn none
  abbrev pub LogsTurns : List Try → D → D → Type 0
  LogsTurns [] before after = after ≡ before
  LogsTurns (Taken moment ∷ later) before after = (mid : D) × ((f : Facts) × LogsOne silent logs f before mid) × LogsTurns later mid after
  LogsTurns (Missed ∷ later) before after = (mid : D) × silent before mid × LogsTurns later mid after

  -- the same of this many turns, which took n requests and lines
  abbrev pub LogsInTurns : ℕ → ℕ → D → D → Type 0
  LogsInTurns turns n before after =
      (made : List Try) × (length made ≡ turns) × (taken_in made ≡ n) × Tries (tries before) (tries after) made × LogsTurns made before after

-- how many requests and lines a turn took
abbrev pub taken_by : Turn → ℕ
taken_by turn.Idle = 0
taken_by turn.Taken = 1
taken_by turn.End = 1

-- what a turn came to whose line was answered so
abbrev pub turn_after : Result Next ReplayFault → Turn
turn_after (Ok next.End) = turn.End
turn_after (Ok next.On) = turn.Taken
turn_after (Err fault) = turn.Taken

-- what kept a line from its end that was answered so
abbrev pub line_trouble : Result Next ReplayFault → Option Trouble
line_trouble (Ok next) = None
line_trouble (Err faults.Read) = Some trouble.Late
line_trouble (Err faults.Write) = Some trouble.Untaken
line_trouble (Err faults.Memory) = Some trouble.Memory
