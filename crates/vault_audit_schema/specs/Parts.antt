-- Parts of a table.
use Rattle.std.specs.Prelude.{ℕ, List, [], Option, false, ◌≡◌}
use Rattle.sqlite_value.specs.declared.keys.Order.{Order}
use Rattle.sqlite.specs.Table.{Table}

-- what distinguishes the rows of the table
pub record HasKey (it : Table) (number : Option ℕ) (places : List ℕ) (sets : List (List ℕ)) (ways : List Order) : Type 0 where
  pub key : it.key ≡ number
  pub primary : it.primary ≡ places
  pub uniques : it.uniques ≡ sets
  pub orders : it.orders ≡ ways

-- the table has no CHECK, no computed default and no count
pub record IsBare (it : Table) : Type 0 where
  pub checks : it.checks ≡ []
  pub computed : it.computed ≡ []
  pub places : it.stamps.places ≡ []
  pub terms : it.stamps.terms ≡ []
  pub formats : it.stamps.formats ≡ []
  pub uncounted : it.is_counted ≡ false
