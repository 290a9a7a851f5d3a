-- The text of events: CSV with a header and a record for each event.
use Rattle.std.specs.Prelude.{ℕ, List, [], ◌∷◌, ◌++◌, Bool, true, false, Option, Some, None, codes, unwrap_or}
use Rattle.std.specs.Fmt.{decimal}
use Rattle.std.specs.List.{flat_map}
use Rattle.csv.specs.Writing.{row_text, default_writer}
use Rattle.vault_base.specs.Moment.{moment_text}
use Rattle.vault_lock.specs.declared.retention.Retention.{Retention}
use Rattle.vault_core_model.specs.declared.records.Entry.{Entry}
use Rattle.vault_core_model.specs.declared.records.History.{History}
use Rattle.vault_core_evidence.specs.Events.{Happening, Admitted, Locked, Moved, Gone, Event, events_asked_of}
use Rattle.vault_files_texts.specs.Register.{kind_name}
use Rattle.vault_values.specs.Words.{hold_name, mode_name}
use Rattle.vault_files_texts.specs.Removed.{digest_text, author_text, cause_kind, cause_name}

-- the names of the columns, with an LF after them
abbrev pub events_header : List ℕ
events_header = codes "version,event,moment,by,bucket,key,kind,size,sha256,mode,until,hold,bypass,cause,department,move\n"

-- what happened
abbrev pub happening_name : Happening → List ℕ
happening_name (Admitted by dept) = codes "admitted"
happening_name (Locked s) = codes "locked"
happening_name (Moved t) = codes "moved"
happening_name (Gone r) = codes "removed"

-- who did it; a move names nobody
abbrev pub who_did : Happening → List ℕ
who_did (Admitted by dept) = author_text by
who_did (Locked s) = s.by
who_did (Moved t) = []
who_did (Gone r) = cause_name r.cause

-- the mode and the end of a retention; two empty cells where there is none
abbrev pub retention_cells : Option Retention → List (List ℕ)
retention_cells None = [] ∷ [] ∷ []
retention_cells (Some r) = mode_name r.mode ∷ moment_text r.until ∷ []

abbrev pub bypass_name : Bool → List ℕ
bypass_name true = codes "true"
bypass_name false = codes "false"

-- the retention, the hold and the bypass of a setting; else four empty cells
unfoldable pub lock_cells : Happening → List (List ℕ)
lock_cells (Locked s) = retention_cells s.lock.retention ++ hold_name s.lock.hold ∷ bypass_name s.bypass ∷ []
lock_cells _ = [] ∷ [] ∷ [] ∷ [] ∷ []

-- the cause of a removal; the department that has the entry from then on, which a marker hasn't; the number of the move
unfoldable pub last_cells : Happening → List (List ℕ)
last_cells (Admitted by dept) = [] ∷ unwrap_or dept [] ∷ [] ∷ []
last_cells (Locked s) = [] ∷ [] ∷ [] ∷ []
last_cells (Moved t) = [] ∷ t.dept ∷ decimal t.number ∷ []
last_cells (Gone r) = cause_kind r.cause ∷ [] ∷ [] ∷ []

-- which entry, what happened, when and by whom
unfoldable pub first_cells : Event → List (List ℕ)
first_cells e = decimal e.entry.id ∷ happening_name e.what ∷ moment_text e.at ∷ who_did e.what ∷ []

-- what the entry is from its admission on
unfoldable pub entry_cells : Entry → List (List ℕ)
entry_cells e = e.bucket ∷ e.key ∷ kind_name e.marker ∷ decimal e.size ∷ digest_text e.digest ∷ []

-- the record of an event, under the names of the header
abbrev pub event_cells : Event → List (List ℕ)
event_cells e = first_cells e ++ entry_cells e.entry ++ lock_cells e.what ++ last_cells e.what

-- its text, as `csv` writes it by default: commas between, quotes where needed, an LF after it
unfoldable pub event_row : Event → List ℕ
event_row e = row_text default_writer (event_cells e)

-- the records of these events
abbrev pub event_rows : List Event → List ℕ
event_rows events = flat_map event_row events

-- the header, and a record for each of these events
abbrev pub events_text : List Event → List ℕ
events_text events = events_header ++ event_rows events

-- what is asked for of what was found of an entry, which may be nothing
abbrev pub asked_found : Option ℕ → Option History → List Event
asked_found asked None = []
asked_found asked (Some h) = events_asked_of asked h

-- what is asked for of these entries
abbrev pub asked_in : Option ℕ → List History → List Event
asked_in asked hs = flat_map (events_asked_of asked) hs
