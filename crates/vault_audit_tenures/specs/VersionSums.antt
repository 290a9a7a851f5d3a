-- The sums over the versions of all departments, taken over the entries one by one.
use Rattle.std.specs.Prelude.{◌≡◌, ◌≢◌, ℕ, Bool, true, false, not, ◌&&◌, List, [], ◌∷◌, ◌++◌, Option, Some, None}
use Rattle.std.specs.Str.{bytes_eq}
use Rattle.sqlite_value.specs.Order.{Row as Values}
use Rattle.vault_tally.specs.Row.{Item}
use Rattle.vault_audit_tenures.specs.declared.sums.owned_entries.OwnedEntry.{OwnedEntry}
use Rattle.vault_audit_tenures.specs.declared.sums.totals.Span.{Span}
use Rattle.vault_audit_tenures.specs.declared.sums.totals.Totals.{Totals}
use Rattle.vault_audit_tenures.specs.declared.sums.versions.SumPass.{SumPass}
use Rattle.vault_audit_tenures.specs.OwnedEntries.{owned_row, IsOwned}
use Rattle.vault_audit_tenures.specs.Totals.{item_of, total_of, IsCounted}

-- no bucket was moved, so a version has one tenure, from its admission to its removal
abbrev pub span_stated : OwnedEntry → Span
span_stated e = record { size = e.size; first = true; from = e.admitted; ended = e.removed; last = true }

-- what counts of a version: its size and days
abbrev pub item_stated : OwnedEntry → Item
item_stated e = item_of (span_stated e)

abbrev pub is_named : List ℕ → Option (List ℕ) → Bool
is_named name None = false
is_named name (Some dept) = bytes_eq dept name

-- a content version of the department of that name
abbrev pub counts_for : List ℕ → OwnedEntry → Bool
counts_for name e = not e.marker && is_named name e.dept

abbrev pub items_where : Bool → OwnedEntry → List Item
items_where false e = []
items_where true e = item_stated e ∷ []

-- the versions of that department among the entries, removed ones included
abbrev pub items_stated : List ℕ → List OwnedEntry → List Item
items_stated name [] = []
items_stated name (e ∷ es) = items_where (counts_for name e) e ++ items_stated name es

-- the entry is counted for its department, where it is a version and has one
abbrev pub CountsEntry : Totals → OwnedEntry → Totals → Type 0
CountsEntry s e t = (name : List ℕ) → IsCounted (counts_for name e) (total_of s name) (item_stated e) (total_of t name)

-- one row goes into the sums
abbrev pub GoesIn : SumPass → Values → SumPass → Type 0
GoesIn p row q = (e : OwnedEntry) × (row ≡ owned_row e) × CountsEntry p.totals e q.totals

-- the row holds no entry in its limits
abbrev pub ReportsNone : SumPass → Values → Type 0
ReportsNone p row = (e : OwnedEntry) → IsOwned e → row ≢ owned_row e
