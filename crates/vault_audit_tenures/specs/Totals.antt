-- The sums over the tenures of each department.
use Rattle.std.specs.Prelude.{◌≡◌, ℕ, ◌≤◌, Bool, true, false, List, [], ◌∷◌, ◌++◌, Option, Some, None, option_map, unwrap_or, sum_by, IsTrue}
use Rattle.std.specs.BTreeMap.{get}
use Rattle.std.specs.Str.{bytes_eq}
use Rattle.vault_base.specs.Days.{day}
use Rattle.vault_tally.specs.Row.{Item, IsRowOf, AreBounded, is_dated, size_of, quota}
use Rattle.vault_tally.specs.declared.row.Row.{Row}
use Rattle.vault_core_model.specs.declared.records.History.{History}
use Rattle.vault_core_model.specs.Order.{name_cmp}
use Rattle.vault_core_model.specs.Totals.{items_in}
use Rattle.vault_audit_model.specs.Spells.{sums_over}
use Rattle.vault_audit_tenures.specs.declared.sums.totals.Span.{Span}
use Rattle.vault_audit_tenures.specs.declared.sums.totals.Totals.{Totals}

-- a tenure as it counts, by days
abbrev pub item_of : Span → Item
item_of s = record { size = s.size; first = s.first; from = day s.from; ended = option_map day s.ended; last = s.last }

-- the sums over no tenure
abbrev pub empty_sums : Row
empty_sums = sums_over []

-- the sums of the department of that name; none where they are above what it may admit and receive
abbrev pub total_of : Totals → List ℕ → Option Row
total_of t name = unwrap_or (get name_cmp t.sums name) (Some empty_sums)

-- these are the sums over the tenures; or the tenures are above the quota
abbrev pub IsTotal : Option Row → List Item → Type 0
IsTotal (Some sums) items = IsRowOf sums items × AreBounded items
IsTotal None items = ¬ (sum_by size_of items ≤ quota)

-- a total over tenures becomes that over one more, or it stays
abbrev pub IsCounted : Bool → Option Row → Item → Option Row → Type 0
IsCounted false before i now = now ≡ before
IsCounted true before i now = (items : List Item) → IsTotal before items → IsTrue (is_dated i) → IsTotal now (items ++ i ∷ [])

-- the tenure is counted for the department of that name, and for no other
abbrev pub CountsFor : Totals → List ℕ → Item → Totals → Type 0
CountsFor s dept i t = (name : List ℕ) → IsCounted (bytes_eq dept name) (total_of s name) i (total_of t name)

-- the totals are those over the tenures of each department
abbrev pub AreTotals : List History → Totals → Type 0
AreTotals hs t = (name : List ℕ) → IsTotal (total_of t name) (items_in name hs)
