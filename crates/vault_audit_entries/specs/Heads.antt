-- Heads by rising bucket and key, beside the entries that are their newest.
use Rattle.std.specs.Prelude.{◌≡◌, ◌==◌, ℕ, ◌+◌, ◌-◌, ◌^◌, min, List, [], ◌∷◌, map, find, Option, None, Some, IsPermutation, Bool}
use Rattle.std.specs.List.{AllByRecursion}
use Rattle.std.specs.Ordering.{ordering_then}
use Rattle.std.specs.declared.cmp.Ordering.{Ordering}
use Rattle.std.specs.declared.cmp.Ordering.TheVariants.{Less}
use Rattle.sqlite_value.specs.declared.value.Value.TheVariants.{Null, Text}
use Rattle.sqlite_value.specs.Order.{Row}
use Rattle.sqlite.specs.Effect.{Database}
use Rattle.vault_core_model.specs.declared.records.Entry.{Entry}
use Rattle.vault_core_model.specs.Order.{IsAscending, name_cmp}
use Rattle.vault_audit_model.specs.declared.rows.HeadRow.{HeadRow}
use Rattle.vault_audit_model.specs.Limits.{IsHeadRow}
use Rattle.vault_audit_model.specs.Relations.{AreEntries}
use Rattle.vault_audit_model.specs.Rows.{head_row, head_columns}
use Rattle.vault_audit_model.specs.Tables.{heads_tree}
use Rattle.vault_audit_model.specs.Values.{number}

-- what is shown of a head beside its newest entry, where that is of its bucket and key, and held
abbrev pub headed_row : HeadRow → Row
headed_row h =
    Text h.bucket ∷ Text h.key ∷ number h.head.newest ∷ number h.head.count ∷ Text h.bucket ∷ Text h.key ∷ Null ∷ []

-- by bucket, then key
abbrev pub head_cmp : HeadRow → HeadRow → Ordering
head_cmp a b = ordering_then (name_cmp a.bucket b.bucket) (name_cmp a.key b.key)

-- the head comes after the last one, where there is one
abbrev pub IsAfter : Option HeadRow → HeadRow → Type 0
IsAfter None h = Unit {0}
IsAfter (Some g) h = head_cmp g h ≡ Less

-- the entry is of the head's bucket and key, and held
abbrev pub IsHeldFor : HeadRow → Option Entry → Type 0
IsHeldFor h None = ⊥
IsHeldFor h (Some e) = (e.bucket ≡ h.bucket) × (e.key ≡ h.key) × (e.removal ≡ None)

-- the newest of the head is a held entry of its key, among these
abbrev pub NamesHeld : List Entry → HeadRow → Type 0
NamesHeld es h = IsHeldFor h (find (λ e. e.id == h.head.newest) es)

-- the rows of heads are these, by rising bucket and key, each naming a held entry of its key
abbrev pub AreHeadsByKey : Database → List Entry → List HeadRow → Type 0
AreHeadsByKey db es hs =
    IsPermutation (map head_row hs) (map head_columns (db.trees heads_tree)) × IsAscending head_cmp hs × AllByRecursion IsHeadRow hs
    × AllByRecursion (NamesHeld es) hs

-- how many entries the heads count together
abbrev pub sum_of_counts : List HeadRow → ℕ
sum_of_counts [] = 0
sum_of_counts (h ∷ hs) = h.head.count + sum_of_counts hs

-- a sum, which stops at 2^64 - 1
abbrev pub up_to_most : ℕ → ℕ
up_to_most n = min n (2 ^ 64 - 1)

-- the sum of their counts; or the rows aren't such heads
abbrev pub DecidesHeadsByKey : Database → List Entry → Option ℕ → Type 0
DecidesHeadsByKey db es (Some total) = (hs : List HeadRow) × AreHeadsByKey db es hs × (total ≡ up_to_most (sum_of_counts hs))
DecidesHeadsByKey db es None = (hs : List HeadRow) → ¬ AreHeadsByKey db es hs

-- the same, of whichever entries the rows are
abbrev pub DecidesHeadRows : Bool → Database → Option ℕ → Type 0
DecidesHeadRows external db total = (es : List Entry) → AreEntries external db es → DecidesHeadsByKey db es total
