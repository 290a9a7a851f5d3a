-- The last moment that the histories of a vault show.
use Rattle.std.specs.Prelude.{ℕ, max, fold, map, List, ◌++◌}
use Rattle.std.specs.Option.{option_to_list}
use Rattle.vault_core_model.specs.declared.records.Entry.{Entry}
use Rattle.vault_core_model.specs.declared.records.History.{History}
use Rattle.vault_core_model.specs.declared.records.Setting.{Setting}
use Rattle.vault_core_model.specs.declared.records.Tenure.{Tenure}
use Rattle.vault_core_model.specs.Vault.{Vault}
use Rattle.vault_core_evidence.specs.Departments.{removed_at}

-- when an entry was set, when its tenures began, and when it was removed
abbrev pub later_moments : Entry → List Setting → List Tenure → List ℕ
later_moments e settings tenures = map (λ s. s.at) settings ++ (map (λ t. t.from) tenures ++ option_to_list (removed_at e))

-- the last of these moments and that of its admission
abbrev pub shown_by : Entry → List Setting → List Tenure → ℕ
shown_by e settings tenures = fold max e.admitted (later_moments e settings tenures)

-- the last moment of all of these histories; or 0 if there are none
abbrev pub shown_in : List History → ℕ
shown_in hs = fold max 0 (map (λ h. shown_by h.entry h.settings h.tenures) hs)

abbrev pub last_shown : Vault → ℕ
last_shown v = shown_in v.histories
