-- A part of the text of what happened before a moment: the records of some entries, by rising id.
use Rattle.std.specs.Prelude.{ℕ, ◌≡◌, ◌≤◌, ◌==◌, List, [], ◌++◌, length, drop, if◌then◌else◌, Some, Result, Ok, Err}
use Rattle.vault_core_model.specs.declared.halt.Halt.{Halt}
use Rattle.vault_core_model.specs.Vault.{Vault}
use Rattle.vault_core_evidence.specs.Events.{events_in}
use Rattle.vault_core_evidence.specs.Parts.{next_of, part}
use Rattle.vault_files_events.specs.EventsText.{event_rows, events_header}
use Rattle.vault_files_events.specs.Seal.{StopsAs}
use Rattle.vault_files_events.specs.declared.page.TextPage.{TextPage}

-- the records of all entries after an id
abbrev pub rest_text : ℕ → ℕ → Vault → List ℕ
rest_text m after v = event_rows (events_in m (drop after v.histories))

-- the part after an id, and where the next one begins; the part after 0 is the first, and begins with the header
abbrev pub page_of : ℕ → ℕ → Vault → TextPage
page_of m after v = record { text = (if after == 0 then events_header else []) ++ event_rows (events_in m (part after v)); next = next_of (length v.histories) after }

-- a part is of what was before a moment that isn't past the last one
abbrev pub PagesAs : Result TextPage Halt → ℕ → ℕ → Vault → Type 0
PagesAs (Ok page) m after v = (m ≤ v.last) × (page ≡ page_of m after v)
PagesAs (Err e) m after v = StopsAs e (Some m) v
