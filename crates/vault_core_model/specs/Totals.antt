-- The sums of a department, over the tenures that it has of content versions.
use Rattle.std.specs.Prelude.{ℕ, ◌*◌, ◌-◌, Bool, true, false, not, List, [], ◌∷◌, filter, map, flat_map, Option, None, Some, option_map, unwrap_or, sum_by}
use Rattle.std.specs.List.{last_or}
use Rattle.std.specs.Str.{bytes_eq}
use Rattle.vault_base.specs.Days.{day}
use Rattle.vault_tally.specs.Row.{Item, IsRowOf, end_day, admitted_size, received_size, held_size, removed_size, handed_size, charge}
use Rattle.vault_tally.specs.declared.row.Row.{Row}
use Rattle.vault_core_model.specs.declared.records.History.{History}
use Rattle.vault_core_model.specs.declared.records.Removal.{Removal}
use Rattle.vault_core_model.specs.declared.records.Tenure.{Tenure}
use Rattle.vault_core_model.specs.Places.{is_held_version_in}
use Rattle.vault_core_model.specs.Vault.{Vault}

-- what counts of a tenure, and whose it is
pub record Share : Type 0 where
  pub dept : List ℕ
  pub item : Item

-- the tenure of a version of that size, whether it is the first, the day of its end or none, and whether it is the last
abbrev pub share : ℕ → Bool → Tenure → Option ℕ → Bool → Share
share size first t ended last =
    record { dept = t.dept; item = record { size = size; first = first; from = day t.from; ended = ended; last = last } }

-- the day of a removal
abbrev pub removal_day : Option Removal → Option ℕ
removal_day removal = option_map (λ r. day r.at) removal

-- the shares of the tenures of a version: each ends as the next begins, and the last with the removal
abbrev pub shares_from : ℕ → Option Removal → Bool → List Tenure → List Share
shares_from size removal first [] = []
shares_from size removal first (t ∷ []) = share size first t (removal_day removal) true ∷ []
shares_from size removal first (t ∷ u ∷ us) = share size first t (Some (day u.from)) false ∷ shares_from size removal false (u ∷ us)

abbrev pub shares_of : History → List Share
shares_of h = shares_from h.entry.size h.entry.removal true h.tenures

-- the tenures of a department among these
abbrev pub items_by : List ℕ → List Share → List Item
items_by dept shares = map (λ s. s.item) (filter (λ s. bytes_eq s.dept dept) shares)

abbrev pub items_in : List ℕ → List History → List Item
items_in dept hs = flat_map (λ h. items_by dept (shares_of h)) hs

abbrev pub items_of : Vault → List ℕ → List Item
items_of v dept = items_in dept v.histories

-- the bytes admitted and received; those held, removed and handed over
abbrev pub admitted_bytes : Vault → List ℕ → ℕ
admitted_bytes v dept = sum_by admitted_size (items_of v dept)

abbrev pub received_bytes : Vault → List ℕ → ℕ
received_bytes v dept = sum_by received_size (items_of v dept)

abbrev pub held_bytes : Vault → List ℕ → ℕ
held_bytes v dept = sum_by held_size (items_of v dept)

abbrev pub removed_bytes : Vault → List ℕ → ℕ
removed_bytes v dept = sum_by removed_size (items_of v dept)

abbrev pub handed_bytes : Vault → List ℕ → ℕ
handed_bytes v dept = sum_by handed_size (items_of v dept)

-- size times whole days, over each tenure, up to its end or to t
abbrev pub byte_days_at : Vault → List ℕ → ℕ → ℕ
byte_days_at v dept t = charge (day t) (items_of v dept)

-- the row is the department's
abbrev pub IsRowFor : Vault → List ℕ → Row → Type 0
IsRowFor v dept row = IsRowOf row (items_of v dept)

-- ---- of the whole vault

-- one of these numbers over all departments
abbrev pub over_departments : Vault → (List ℕ → ℕ) → ℕ
over_departments v f = sum_by f v.departments

-- the content versions, removed ones included
abbrev pub versions_of : Vault → List History
versions_of v = filter (λ h. not h.entry.marker) v.histories

-- size times whole days held, up to the removal or to t, summed over the versions
abbrev pub vault_byte_days : Vault → ℕ → ℕ
vault_byte_days v t = sum_by (λ h. h.entry.size * (end_day (removal_day h.entry.removal) (day t) - day h.entry.admitted)) (versions_of v)

-- ---- of a bucket

-- the day from which a version's department has it: that of its last tenure
abbrev pub last_day_from : List Tenure → ℕ
last_day_from ts = unwrap_or (option_map (λ t. day t.from) (last_or None ts)) 0

-- the held content versions of a bucket
abbrev pub held_versions_in : Vault → List ℕ → List History
held_versions_in v bucket = filter (λ h. is_held_version_in bucket h.entry) v.histories

-- the size of a bucket's held content
abbrev pub bucket_bytes : Vault → List ℕ → ℕ
bucket_bytes v bucket = sum_by (λ h. h.entry.size) (held_versions_in v bucket)

-- each size times the day from which the department has it
abbrev pub bucket_weight : Vault → List ℕ → ℕ
bucket_weight v bucket = sum_by (λ h. h.entry.size * last_day_from h.tenures) (held_versions_in v bucket)
