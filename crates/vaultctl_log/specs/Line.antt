-- The line of an entry of the log.
use Rattle.std.specs.Prelude.{ℕ, ◌≡◌, ◌⊎◌, ◌==◌, ◌&&◌, List, [], ◌++◌, length, min, codes, Bool, true, false, not, if◌then◌else◌, Option, Some, None}
use Rattle.std.specs.Str.{bytes_eq}
use Rattle.vault_base.specs.Moment.{moment_text}
use Rattle.vaultctl_log.specs.Answered.{answer_members, reply_members, status_of}
use Rattle.vaultctl_log.specs.Asked.{IsShown, line_members}
use Rattle.vaultctl_log.specs.Members.{number_member, quoted, text_member}
use Rattle.vaultctl_log.specs.declared.entry.Door.{Door}
use Rattle.vaultctl_log.specs.declared.entry.Door.TheVariants as door
use Rattle.vaultctl_log.specs.declared.entry.Facts.{Facts}
use Rattle.vaultctl_log.specs.declared.entry.Trouble.{Trouble}
use Rattle.vaultctl_log.specs.declared.entry.Trouble.TheVariants as trouble

abbrev pub door_name : Door → List ℕ
door_name door.Requests = codes "http"
door_name door.Lines = codes "lines"

abbrev pub trouble_name : Trouble → List ℕ
trouble_name trouble.Connection = codes "connection"
trouble_name trouble.Late = codes "late"
trouble_name trouble.Untaken = codes "untaken"
trouble_name trouble.Memory = codes "memory"

-- when it was taken, where the clock showed a moment
abbrev pub moment_member : Option ℕ → List ℕ
moment_member None = []
moment_member (Some at) = text_member (codes "at") (moment_text at)

-- by which door it came, and when: the beginning of a line
unfoldable pub begun : Facts → List ℕ
begun f = codes "{\"door\":" ++ quoted (door_name f.door) ++ moment_member f.moment

-- the query of a request is shown where it was understood: where its answer has a status, neither 400 nor 501
abbrev pub is_understood : Option (List ℕ) → Bool
is_understood None = false
is_understood (Some digits) = if bytes_eq digits (codes "400") then false else not (bytes_eq digits (codes "501"))

-- what is shown of what was asked
abbrev pub ShowsAsked : Door → List ℕ → List ℕ → List ℕ → Type 0
ShowsAsked door.Requests asked answered shown = IsShown (is_understood (status_of answered)) asked shown
ShowsAsked door.Lines asked answered shown = shown ≡ line_members asked

abbrev pub answered_members : Door → List ℕ → List ℕ
answered_members door.Requests answered = answer_members answered
answered_members door.Lines answered = reply_members answered

-- all of `count` bytes; or the first of them, as many as are noted
abbrev pub is_front : ℕ → ℕ → List ℕ → Bool
is_front most count front = length front == min count most

-- what came and what was written is noted: a line whole, of a request at most 16,384 bytes, of an answer 1,024
abbrev pub is_noted : Door → Facts → List ℕ → List ℕ → Bool
is_noted door.Requests f asked answered = is_front 16384 f.came asked && is_front 1024 f.went answered
is_noted door.Lines f asked answered = is_front 1024 f.went answered

-- what kept it from its end; or, where it isn't all noted, that memory was refused
abbrev pub trouble_of : Option Trouble → Bool → Option Trouble
trouble_of (Some t) noted = Some t
trouble_of None true = None
trouble_of None false = Some trouble.Memory

-- what kept it from its end; or else what was answered
abbrev pub result_members : Option Trouble → Door → List ℕ → List ℕ
result_members None door answered = answered_members door answered
result_members (Some t) door answered = text_member (codes "result") (trouble_name t)

-- how many bytes came and went, and how long it took: the end of a line
unfoldable pub counted : Facts → List ℕ
counted f = number_member (codes "in") f.came ++ number_member (codes "out") f.went ++ number_member (codes "ms") f.millis ++ codes "}\n"

-- the text is the line of what was asked and answered, of which these are the fronts
abbrev pub IsLine : Facts → List ℕ → List ℕ → List ℕ → Type 0
IsLine f asked answered text =
    (shown : List ℕ) × ShowsAsked f.door asked answered shown
    × (text ≡ ((begun f ++ shown) ++ result_members (trouble_of f.trouble (is_noted f.door f asked answered)) f.door answered) ++ counted f)

-- where there is no room for the line, it is said that memory was refused
abbrev pub no_room : List ℕ
no_room = codes "{\"result\":\"memory\"}\n"

abbrev pub IsWritten : Facts → List ℕ → List ℕ → List ℕ → Type 0
IsWritten f asked answered text = IsLine f asked answered text ⊎ (text ≡ no_room)
