-- How many events there are, and how many of them are admissions.
use Rattle.std.specs.Prelude.{ℕ, List, length, Bool, true, false, count_by}
use Rattle.vault_core_evidence.specs.Events.{Happening, Admitted, Event}
use Rattle.vault_files_events.specs.declared.counted.Counted.{Counted}

abbrev pub is_admission : Happening → Bool
is_admission (Admitted by dept) = true
is_admission _ = false

-- how many entries were admitted
abbrev pub admissions : List Event → ℕ
admissions events = count_by (λ e. is_admission e.what) events

abbrev pub counts : List Event → Counted
counts events = record { entries = admissions events; events = length events }
