-- Which events of an entry are asked for.
use Rattle.std.specs.Prelude.{ℕ, nat_lt, List, Bool, true, Option, Some, None, filter}
use Rattle.vault_core_model.specs.declared.records.History.{History}
use Rattle.vault_core_evidence.specs.Events.{Event, events_of}

-- that moment is before the one that is asked for, where one is
abbrev pub is_within : Option ℕ → ℕ → Bool
is_within None at = true
is_within (Some m) at = nat_lt at m

abbrev pub is_asked : Option ℕ → Event → Bool
is_asked before e = is_within before e.at

-- what happened to an entry, as far as it is asked for
abbrev pub asked_of : Option ℕ → History → List Event
asked_of before h = filter (is_asked before) (events_of h)
