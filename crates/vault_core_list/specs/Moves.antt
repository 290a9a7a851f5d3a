-- The tenures that a history gets as its bucket moves.
use Rattle.std.specs.Prelude.{List, [], ◌∷◌, ◌++◌, Option, Some, None, if◌then◌else◌, ℕ}
use Rattle.vault_core_model.specs.declared.records.History.{History}
use Rattle.vault_core_model.specs.declared.records.Tenure.{Tenure}
use Rattle.vault_core_model.specs.Places.{is_held_version_in}

-- its tenures and one more, where it is a held version of that bucket
abbrev pub longer_if : List ℕ → Tenure → History → Option (List Tenure)
longer_if bucket t h = if is_held_version_in bucket h.entry then Some (h.tenures ++ t ∷ []) else None
