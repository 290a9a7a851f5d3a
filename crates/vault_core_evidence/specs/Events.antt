-- What ever happened to each entry, and what of it was before a moment.
use Rattle.std.specs.Prelude.{ℕ, Bool, nat_lt, List, [], ◌∷◌, ◌++◌, map, filter, flat_map, Option, Some, None}
use Rattle.vault_core_model.specs.declared.records.Author.{Author}
use Rattle.vault_core_model.specs.declared.records.Entry.{Entry}
use Rattle.vault_core_model.specs.declared.records.History.{History}
use Rattle.vault_core_model.specs.declared.records.Removal.{Removal}
use Rattle.vault_core_model.specs.declared.records.Setting.{Setting}
use Rattle.vault_core_model.specs.declared.records.Tenure.{Tenure}
use Rattle.vault_core_model.specs.Vault.{Vault}

-- An entry was admitted, by whom and in which department (a marker in none); its lock was set; its bucket moved; it was removed.
pub data Happening : Type 0 where
  Admitted : Author → Option (List ℕ) → Happening
  Locked : Setting → Happening
  Moved : Tenure → Happening
  Gone : Removal → Happening

-- what an entry was from its admission on, when something happened to it, and what
pub record Event : Type 0 where
  pub entry : Entry
  pub at : ℕ
  pub what : Happening

-- the entry as it was admitted: a later removal doesn't change what is said of the events before it
abbrev pub as_admitted : Entry → Entry
as_admitted e = record e { removal = None }

-- the department of the first of these tenures
abbrev pub first_department : List Tenure → Option (List ℕ)
first_department [] = None
first_department (t ∷ ts) = Some t.dept

-- the tenures after the first
abbrev pub later_tenures : List Tenure → List Tenure
later_tenures [] = []
later_tenures (t ∷ ts) = ts

abbrev pub admission_of : History → Event
admission_of h = record { entry = as_admitted h.entry; at = h.entry.admitted; what = Admitted h.entry.by (first_department h.tenures) }

abbrev pub setting_event : Entry → Setting → Event
setting_event e s = record { entry = e; at = s.at; what = Locked s }

abbrev pub move_event : Entry → Tenure → Event
move_event e t = record { entry = e; at = t.from; what = Moved t }

abbrev pub removal_events : Entry → Option Removal → List Event
removal_events e None = []
removal_events e (Some r) = record { entry = e; at = r.at; what = Gone r } ∷ []

-- all that happened to an entry: its admission, its settings, its later tenures, and its removal
abbrev pub events_of : History → List Event
events_of h =
    admission_of h ∷ []
    ++ (map (setting_event (as_admitted h.entry)) h.settings
    ++ (map (move_event (as_admitted h.entry)) (later_tenures h.tenures)
    ++ removal_events (as_admitted h.entry) h.entry.removal))

-- the event was before m
abbrev pub is_before : ℕ → Event → Bool
is_before m e = nat_lt e.at m

abbrev pub events_before_of : ℕ → History → List Event
events_before_of m h = filter (is_before m) (events_of h)

-- all that happened to each of these entries before m, by rising id
abbrev pub events_in : ℕ → List History → List Event
events_in m hs = flat_map (events_before_of m) hs

-- and of a vault
abbrev pub events_before : ℕ → Vault → List Event
events_before m v = events_in m v.histories

-- what is asked for of an entry: all that happened to it, or what was before a moment
abbrev pub events_asked_of : Option ℕ → History → List Event
events_asked_of None h = events_of h
events_asked_of (Some m) h = events_before_of m h

-- and of a vault, by rising id
abbrev pub events_asked : Option ℕ → Vault → List Event
events_asked asked v = flat_map (events_asked_of asked) v.histories
