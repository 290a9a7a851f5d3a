-- What a row of a bucket's held version says.
use Rattle.std.specs.Prelude.{ℕ, ◌*◌, ◌≤◌, List, [], ◌∷◌, map, option_to_list}
use Rattle.sqlite_value.specs.Order.{Row}
use Rattle.vault_base.specs.Days.{day, last_moment}
use Rattle.vault_base.specs.Limits.{most_external}
use Rattle.vault_core_model.specs.Sound.{last_tenure}
use Rattle.vault_core_model.specs.declared.records.History.{History}
use Rattle.vault_core_model.specs.declared.records.Tenure.{Tenure}
use Rattle.vault_audit_model.specs.Values.{number}
use Rattle.vault_store_walks.specs.declared.held.SizedRow.{SizedRow}

pub record IsSizedRow (x : SizedRow) : Type 0 where
  pub size : x.size ≤ most_external
  pub from : x.from ≤ last_moment

-- the size of a version, and since when its department has it
abbrev pub sized_row : SizedRow → Row
sized_row x = number x.size ∷ number x.from ∷ []

abbrev pub sized_with : ℕ → Tenure → SizedRow
sized_with size t = record { size = size; from = t.from }

-- a version has a last tenure
abbrev pub sized_of : History → List SizedRow
sized_of h = map (sized_with h.entry.size) (option_to_list (last_tenure h.tenures))

-- its size times the day from which its department has it
abbrev pub weight_of : SizedRow → ℕ
weight_of x = x.size * day x.from
