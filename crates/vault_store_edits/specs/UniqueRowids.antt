-- Rows that a statement finds by a test, each by a number of its own.
use Rattle.std.specs.Prelude.{◌≡◌, ℤ, Bool, true, List}
use Rattle.sqlite_value.specs.declared.value.Value.TheVariants.{Int}
use Rattle.sqlite_value.specs.Order.{Row}
use Rattle.sqlite_trees.specs.Tree.{rowid, has_rowid}
use Rattle.sqlite_rules.specs.Lists.{Has}

-- each row that passes has a whole number as its rowid, and no other row has that
abbrev pub HaveUniqueRowids : (Row → Bool) → List Row → Type 0
HaveUniqueRowids test rows =
    (row : Row) → Has rows row → test row ≡ true → (id : ℤ) × (rowid row ≡ Int id) × ((other : Row) → Has rows other → has_rowid id other ≡ true → other ≡ row)
