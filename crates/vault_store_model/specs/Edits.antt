-- What a statement makes of the rows of the tables: rows are added to one table, changed in it, or dropped from it.
use Rattle.std.specs.Prelude.{◌≡◌, ◌==◌, ℕ, Bool, true, false, not, cond, List, [], ◌∷◌, map, filter, IsTrue}
use Rattle.sqlite_value.specs.Order.{Row}
use Rattle.sqlite.specs.State.{State}
use Rattle.vault_base.specs.declared.refusal.Table.{Table}
use Rattle.vault_base.specs.declared.refusal.Table.TheVariants as table
use Rattle.vault_audit_model.specs.Order.{place_of}
use Rattle.vault_audit_model.specs.Tables.{vault_schema}
use Rattle.vault_store_model.specs.Rows.{Rows, AreSameRows, rows_in}
use Rattle.vault_store_model.specs.Tests.{every, with_last}

-- the rows of one table become these, those of all others stay
abbrev pub with_rows : Table → (List Row → List Row) → Rows → Rows
with_rows t edit xs s = cond (place_of t == place_of s) (edit (xs s)) (xs s)

-- a row more
abbrev pub with_row : Table → Row → Rows → Rows
with_row t row = with_rows t (λ rows. row ∷ rows)

-- the row, changed where it passes the test
abbrev pub changed_if : (Row → Bool) → (Row → Row) → Row → Row
changed_if test change row = cond (test row) (change row) row

abbrev pub with_changed : Table → (Row → Bool) → (Row → Row) → Rows → Rows
with_changed t test change = with_rows t (map (changed_if test change))

-- without the rows that pass the test
abbrev pub without : Table → (Row → Bool) → Rows → Rows
without t test = with_rows t (filter (λ row. not (test row)))

-- these rows one after the other before those that are there
abbrev pub pushed : List Row → List Row → List Row
pushed [] rows = rows
pushed (row ∷ more) rows = pushed more (row ∷ rows)

abbrev pub with_each : Table → List Row → Rows → Rows
with_each t more = with_rows t (pushed more)

-- the last moment
abbrev pub at_moment : ℕ → Rows → Rows
at_moment t = with_changed table.Meta every (with_last t)

-- an edit that is made, or not
abbrev pub made_if : Bool → (Rows → Rows) → Rows → Rows
made_if false edit xs = xs
made_if true edit xs = edit xs

-- one edit after the other
abbrev pub and_then : (Rows → Rows) → (Rows → Rows) → Rows → Rows
and_then first second xs = second (first xs)

-- the order in which rows stand makes no difference to the edit
abbrev pub IgnoresOrder : (Rows → Rows) → Type 0
IgnoresOrder edit = (xs ys : Rows) → AreSameRows xs ys → AreSameRows (edit xs) (edit ys)

-- A part of a transaction makes this edit of the tables of a vault, one that registers contents which are kept outside or not, and leaves the last commit alone.
pub record Edits (external : Bool) (old new : State) (edit : Rows → Rows) : Type 0 where
  pub was_open : IsTrue old.is_open
  pub is_open : IsTrue new.is_open
  pub inside : IsTrue new.in_transaction
  pub committed : new.committed ≡ old.committed
  pub schema : old.now.schema ≡ vault_schema external → new.now.schema ≡ vault_schema external
  pub rows : old.now.schema ≡ vault_schema external → AreSameRows (edit (rows_in external old.now)) (rows_in external new.now)
  pub ignores : IgnoresOrder edit
