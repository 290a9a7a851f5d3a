-- The settings by their versions and places.
use Rattle.std.specs.Prelude.{◌≡◌, ◌+◌, ◌<◌, ◌⊎◌, Bool, true, false, not, ◌==◌, List, map, IsPermutation}
use Rattle.std.specs.List.{AllByRecursion, list_any}
use Rattle.sqlite.specs.Effect.{Database}
use Rattle.vault_core_model.specs.declared.records.Entry.{Entry}
use Rattle.vault_audit_model.specs.declared.rows.SettingRow.{SettingRow}
use Rattle.vault_audit_model.specs.Limits.{IsSettingRow}
use Rattle.vault_audit_model.specs.Relations.{AreEntries}
use Rattle.vault_audit_model.specs.Rows.{setting_row, setting_columns}
use Rattle.vault_audit_model.specs.Tables.{settings_tree}
use Rattle.vault_audit_rows.specs.Beside.{Decides}
use Rattle.vault_audit_rows.specs.Pass.{AllFit}
use Rattle.vault_audit_entries.specs.declared.settings.placed.SettingPass.{SettingPass}

-- at the next place of the same version, or the first of a later one
abbrev pub IsNext : SettingPass → SettingRow → Type 0
IsNext p s = ((s.id ≡ p.id) × (s.place ≡ p.next)) ⊎ ((p.id < s.id) × (s.place ≡ 1))

abbrev pub ComesNext : SettingPass → SettingRow → Type 0
ComesNext p s = IsSettingRow s × IsNext p s

abbrev pub with_setting : SettingPass → SettingRow → SettingPass
with_setting p s = record { id = s.id; next = s.place + 1 }

-- before the first setting
abbrev pub no_setting : SettingPass
no_setting = record { id = 0; next = 0 }

-- the rows of settings are these, in any order
abbrev pub AreRowsOf : Database → List SettingRow → Type 0
AreRowsOf db xs = IsPermutation (map setting_row xs) (map setting_columns (db.trees settings_tree))

-- whether the settings of each id stand at the places 1, 2, 3 and so on
abbrev pub DecidesPlaces : Database → Bool → Type 0
DecidesPlaces db true = (xs : List SettingRow) × AreRowsOf db xs × AllFit setting_row ComesNext with_setting no_setting xs
DecidesPlaces db false = (xs : List SettingRow) → AreRowsOf db xs → ¬ AllFit setting_row ComesNext with_setting no_setting xs

-- some setting is of the entry, unless it is a marker
abbrev pub IsSetAs : List SettingRow → Entry → Type 0
IsSetAs xs e = list_any (λ x. x.id == e.id) xs ≡ not e.marker

-- the setting is of one of the entries
abbrev pub IsOfOne : List Entry → SettingRow → Type 0
IsOfOne es x = list_any (λ e. e.id == x.id) es ≡ true

-- whether each version has a setting and no marker has one
abbrev pub DecidesPresence : Bool → Database → Bool → Type 0
DecidesPresence external db b = (es : List Entry) → AreEntries external db es → (xs : List SettingRow) → AreRowsOf db xs → Decides b (AllByRecursion (IsSetAs xs) es)

-- each setting has an entry
abbrev pub HaveOwners : Bool → Database → Type 0
HaveOwners external db = (es : List Entry) → AreEntries external db es → (xs : List SettingRow) → AreRowsOf db xs → AllByRecursion (IsOfOne es) xs
