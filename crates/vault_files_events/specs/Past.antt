-- What is read of one entry.
use Rattle.std.specs.Prelude.{ℕ, List, [], Option, Some, None, option_map}
use Rattle.vault_core_model.specs.declared.records.History.{History}
use Rattle.vault_core_evidence.specs.Events.{Event, events_asked_of}
use Rattle.vault_files_events.specs.Adds.{history_by}
use Rattle.vault_files_events.specs.declared.past.Past.{Past}

-- a history without its bytes
abbrev pub past_of : Option History → Option Past
past_of found = option_map (λ h. record { entry = h.entry; settings = h.settings; tenures = h.tenures }) found

-- what is asked for of it
abbrev pub asked_past : Option ℕ → Past → List Event
asked_past asked p = events_asked_of asked (history_by p.entry p.settings p.tenures)

-- what is asked for of what was found, which may be nothing
abbrev pub asked_of_past : Option ℕ → Option Past → List Event
asked_of_past asked None = []
asked_of_past asked (Some p) = asked_past asked p
