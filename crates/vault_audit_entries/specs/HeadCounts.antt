-- Heads and the held entries of their keys.
use Rattle.std.specs.Prelude.{◌≡◌, ℕ, ◌&&◌, Bool, true, false, List, length, map, filter, is_none, IsPermutation}
use Rattle.std.specs.List.{AllByRecursion}
use Rattle.std.specs.Ordering.{nat_cmp, is_le}
use Rattle.sqlite_value.specs.Order.{Row, column}
use Rattle.sqlite.specs.Effect.{Database}
use Rattle.vault_core_model.specs.declared.records.Entry.{Entry}
use Rattle.vault_core_model.specs.Places.{is_held_at}
use Rattle.vault_audit_model.specs.declared.rows.HeadRow.{HeadRow}
use Rattle.vault_audit_model.specs.Relations.{AreEntries}
use Rattle.vault_audit_model.specs.Rows.{head_row, head_columns}
use Rattle.vault_audit_model.specs.Tables.{heads_tree}
use Rattle.vault_audit_model.specs.Values.{number}

-- a held entry of the head's bucket and key, no newer than the one that the head names
abbrev pub is_under : HeadRow → Entry → Bool
is_under h e = is_held_at h.bucket h.key e && is_le (nat_cmp e.id h.head.newest)

-- the head has the number of these
abbrev pub IsCounted : List Entry → HeadRow → Type 0
IsCounted es h = h.head.count ≡ length (filter (is_under h) es)

-- whether each head has
abbrev pub DecidesCounts : List Entry → List HeadRow → Bool → Type 0
DecidesCounts es hs true = AllByRecursion (IsCounted es) hs
DecidesCounts es hs false = ¬ AllByRecursion (IsCounted es) hs

-- the same, of whichever entries and heads the rows are
abbrev pub DecidesCountRows : Bool → Database → Bool → Type 0
DecidesCountRows external db found =
    (es : List Entry) (hs : List HeadRow) → AreEntries external db es → IsPermutation (map head_row hs) (map head_columns (db.trees heads_tree)) → DecidesCounts es hs found

-- the row shows one number twice
abbrev pub ShowsCount : Row → Type 0
ShowsCount row = (n : ℕ) × (column row 0 ≡ number n) × (column row 1 ≡ number n)

-- an entry that is held: a version or a marker
abbrev pub is_held : Entry → Bool
is_held e = is_none e.removal

-- how many are
abbrev pub held_entry_count : List Entry → ℕ
held_entry_count es = length (filter is_held es)
