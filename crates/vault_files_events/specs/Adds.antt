-- Records of events, one after another.
use Rattle.std.specs.Prelude.{◌≡◌, ◌+◌, List, ◌++◌, length, None}
use Rattle.vault_core_model.specs.declared.records.Entry.{Entry}
use Rattle.vault_core_model.specs.declared.records.History.{History}
use Rattle.vault_core_model.specs.declared.records.Setting.{Setting}
use Rattle.vault_core_model.specs.declared.records.Tenure.{Tenure}
use Rattle.vault_core_evidence.specs.Events.{Event}
use Rattle.vault_files_events.specs.Counts.{admissions}
use Rattle.vault_files_events.specs.EventsText.{event_rows}
use Rattle.vault_files_events.specs.declared.rows.Rows.{Rows}

-- the records of these events came after those that were there, and were counted
abbrev pub Adds : Rows → List Event → Rows → Type 0
Adds s events t =
    (t.text.items ≡ s.text.items ++ event_rows events)
    × (t.counted.entries ≡ s.counted.entries + admissions events)
    × (t.counted.events ≡ s.counted.events + length events)

-- an entry with its settings and tenures; its bytes don't count here
abbrev pub history_by : Entry → List Setting → List Tenure → History
history_by e settings tenures = record { entry = e; content = None; settings = settings; tenures = tenures }
