-- What an intake of a list does: the rows below the header, one after another, each as a command of the history machine.
use Rattle.std.specs.Prelude.{◌≡◌, ℕ, ◌+◌, ◌<◌, List, [], ◌∷◌, ◌++◌, length, Bool, true, false, nat_le, ◌||◌, Option, Some, None, Result, Ok, Err, if◌then◌else◌, MatchBool, ◌⊎◌}
use Rattle.std.specs.List.{list_any}
use Rattle.vault_base.specs.declared.content.Content.{Content}
use Rattle.vault_base.specs.declared.content.Content.TheVariants.{Inside}
use Rattle.vault_base.specs.declared.refusal.Refusal.{Refusal}
use Rattle.vault_base.specs.declared.refusal.Refusal.TheVariants as refusal
use Rattle.vault_base.specs.Limits.{most_content}
use Rattle.vault_core_model.specs.declared.command.Command.TheVariants as command
use Rattle.vault_core_model.specs.declared.command.Intake.{Intake}
use Rattle.vault_core_model.specs.declared.halt.Fault.{Fault}
use Rattle.vault_core_model.specs.declared.halt.Fault.TheVariants as fault
use Rattle.vault_core_model.specs.declared.halt.Halt.{Halt}
use Rattle.vault_core_model.specs.declared.halt.Halt.TheVariants as halt
use Rattle.vault_core_model.specs.declared.reply.Reply.{Reply}
use Rattle.vault_core_model.specs.declared.reply.Reply.TheVariants as reply
use Rattle.vault_core_model.specs.Halts.{is_device_fault, is_device_refusal, is_device_reply}
use Rattle.vault_core_model.specs.Step.{IsStep, is_fault}
use Rattle.vault_core_model.specs.Vault.{Vault}
use Rattle.vault_values.specs.Fault.{◌>>=◌}
use Rattle.vault_files_intake.specs.List.{most_list, AreRecordsOf, is_of_five, below_header}
use Rattle.vault_files_intake.specs.Row.{row_of}
use Rattle.vault_files_intake.specs.declared.row.Row.{Row}
use Rattle.vault_files_intake.specs.declared.folder.File.{File}
use Rattle.vault_files_intake.specs.Folder.{Holds}
use Rattle.vault_files_intake.specs.declared.report.RowReply.{RowReply}

-- the file that a row names must be there, and small enough for one version
unfoldable pub content_of : Option (List ℕ) → Result Content Refusal
content_of None = Err refusal.InvalidArgument
content_of (Some bytes) = if nat_le (length bytes) most_content then Ok (Inside bytes) else Err refusal.EntityTooLarge

-- the command of a row with that content
abbrev pub intake_of : List ℕ → List ℕ → ℕ → Row → Content → Intake
intake_of bucket batch line row content =
    record { batch = batch; line = line; put = record { bucket = bucket; key = row.key; content = content; retention = row.retention; hold = row.hold } }

-- the command of a record, where the folder answers so; else the first fault: of a cell, in their order, and then of the file
unfoldable pub command_of : (List ℕ → Option (List ℕ)) → List ℕ → List ℕ → ℕ → List (List ℕ) → Result Intake Refusal
command_of folder bucket batch line cells = do
  row ← row_of cells
  content ← content_of (folder row.file)
  Ok (intake_of bucket batch line row content)

-- what a folder with these files may answer to each name
abbrev pub MayAnswer : Option (List File) → (List ℕ → Option (List ℕ)) → Type 0
MayAnswer files folder = (name : List ℕ) → Holds files name (folder name)

-- the command of a record or its refusal, by an answer that the folder may give; a fault says nothing
abbrev pub Asks : Option (List File) → List ℕ → List ℕ → ℕ → List (List ℕ) → Result Intake Halt → Type 0
Asks files bucket batch line cells (Ok c) = (folder : List ℕ → Option (List ℕ)) × MayAnswer files folder × (command_of folder bucket batch line cells ≡ Ok c)
Asks files bucket batch line cells (Err (halt.Refused r)) = (folder : List ℕ → Option (List ℕ)) × MayAnswer files folder × (command_of folder bucket batch line cells ≡ Err r)
Asks files bucket batch line cells (Err (halt.Fault f)) = Unit {0}

-- out of memory or a failing device is no reply to a row; it ends the intake
abbrev pub is_fault_reply : Reply → Bool
is_fault_reply (reply.Done answer) = false
is_fault_reply (reply.Refused r) = is_fault r
is_fault_reply (reply.Stopped n s) = false

-- the refusal that reports a fault, and the reply
abbrev pub refusal_of : Fault → Refusal
refusal_of fault.Memory = refusal.Memory
refusal_of fault.Device = refusal.Device

abbrev pub fault_reply : Fault → Reply
fault_reply f = reply.Refused (refusal_of f)

-- a row is refused for a fault of its own and changes nothing, or its command, given at t by that caller, is a step of the history machine
abbrev pub Judged : Result Intake Refusal → ℕ → List ℕ → Vault → Reply → Vault → Type 0
Judged (Err r) t who v answer v' = (answer ≡ reply.Refused r) × (v' ≡ v)
Judged (Ok c) t who v answer v' = (is_fault_reply answer ≡ false) × IsStep v t who (command.Intake c) answer v'

-- a row with that number leads from v to v' and is answered so
abbrev pub AnswersRow : Option (List File) → ℕ → List ℕ → List ℕ → List ℕ → ℕ → List (List ℕ) → Vault → Reply → Vault → Type 0
AnswersRow files t who bucket batch line cells v answer v' =
    (folder : List ℕ → Option (List ℕ)) × MayAnswer files folder × Judged (command_of folder bucket batch line cells) t who v answer v'

-- Why an intake stops before the first of these records, of which n rows stand above: its length isn't five, no line has its number, or a fault came.
abbrev pub StopsAt : ℕ → List (List (List ℕ)) → Refusal → Type 0
StopsAt above records refusal.Memory = Unit {0}
StopsAt above records refusal.Device = Unit {0}
StopsAt above (cells ∷ later) refusal.MalformedBody = is_of_five cells ≡ false
StopsAt above (cells ∷ later) refusal.EntityTooLarge = 4294967295 < above + 1
StopsAt above records r = ⊥

-- The records below the header, of which n rows stand above, lead from v to v': one row for each, up to the stop.
abbrev pub TakesRows : Option (List File) → ℕ → List ℕ → List ℕ → List ℕ → ℕ → List (List (List ℕ)) → Vault → List RowReply → Option Refusal → Vault → Type 0
TakesRows files t who bucket batch above records v [] None v' = (records ≡ []) × (v' ≡ v)
TakesRows files t who bucket batch above records v [] (Some r) v' = StopsAt above records r × (v' ≡ v)
TakesRows files t who bucket batch above [] v (row ∷ rows) stop v' = ⊥
TakesRows files t who bucket batch above (cells ∷ later) v (row ∷ rows) stop v' =
    (row.line ≡ above + 1) × (is_of_five cells ≡ true) × (mid : Vault) × AnswersRow files t who bucket batch (above + 1) cells v row.reply mid
    × TakesRows files t who bucket batch (above + 1) later mid rows stop v'

-- one row more: its reply stands after those of the rows above
abbrev pub TakesOne : Option (List File) → ℕ → List ℕ → List ℕ → List ℕ → ℕ → List (List ℕ) → Vault → List RowReply → List RowReply → Vault → Type 0
TakesOne files t who bucket batch line cells v rows rows' v' =
    (is_of_five cells ≡ true) × (answer : Reply) × (rows' ≡ rows ++ record { line = line; reply = answer } ∷ []) × AnswersRow files t who bucket batch line cells v answer v'

-- why a row may stop an intake
abbrev pub StopsBefore : List (List ℕ) → Refusal → Type 0
StopsBefore cells refusal.Memory = Unit {0}
StopsBefore cells refusal.Device = Unit {0}
StopsBefore cells refusal.MalformedBody = is_of_five cells ≡ false
StopsBefore cells r = ⊥

-- nothing but that stop
abbrev pub StopsAtOnce : Refusal → Vault → List RowReply → Option Refusal → Vault → Type 0
StopsAtOnce r v rows stop v' = (rows ≡ []) × (stop ≡ Some r) × (v' ≡ v)

-- the same of all records: a wrong first one, or none, is malformed
abbrev pub TakesBelow : Option (List File) → ℕ → List ℕ → List ℕ → List ℕ → Result (List (List (List ℕ))) Refusal → Vault → List RowReply → Option Refusal → Vault → Type 0
TakesBelow files t who bucket batch (Err r) v rows stop v' = StopsAtOnce r v rows stop v'
TakesBelow files t who bucket batch (Ok records) v rows stop v' = TakesRows files t who bucket batch 0 records v rows stop v'

-- The intake of a list that isn't too long: its records were read, or memory for them was refused.
abbrev pub TakesList : Option (List File) → ℕ → List ℕ → List ℕ → List ℕ → List ℕ → Vault → List RowReply → Option Refusal → Vault → Type 0
TakesList files t who bucket batch list v rows stop v' =
    StopsAtOnce refusal.Memory v rows stop v'
    ⊎ ((records : List (List (List ℕ))) × AreRecordsOf list records × TakesBelow files t who bucket batch (below_header records) v rows stop v')

-- the intake of a list
abbrev pub TakesIn : Option (List File) → ℕ → List ℕ → List ℕ → List ℕ → List ℕ → Vault → List RowReply → Option Refusal → Vault → Type 0
TakesIn files t who bucket batch list v rows stop v' =
    MatchBool (nat_le (length list) most_list) (TakesList files t who bucket batch list v rows stop v') (StopsAtOnce refusal.EntityTooLarge v rows stop v')

-- ---- whether it is reported that a device failed

-- by what came of a row: its reply, or a fault
abbrev pub reports_device : Result Reply Fault → Bool
reports_device (Ok answer) = is_device_reply answer
reports_device (Err f) = is_device_fault f

abbrev pub is_device_row : RowReply → Bool
is_device_row row = is_device_reply row.reply

-- by the replies to rows, or by what stopped their intake
abbrev pub report_names_device : List RowReply → Option Refusal → Bool
report_names_device rows None = list_any is_device_row rows
report_names_device rows (Some r) = list_any is_device_row rows || is_device_refusal r

-- what stops an intake, if anything does
abbrev pub stop_of : Result (Unit {0}) Refusal → Option Refusal
stop_of (Ok t) = None
stop_of (Err r) = Some r
