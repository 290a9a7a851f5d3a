-- How large the sums of a department can become: each stays below half of what 64 bits hold.
use Rattle.std.specs.Prelude.{ℕ, ◌+◌, ◌*◌, ◌^◌, ◌<◌, ◌≤◌, List}
use Rattle.vault_base.specs.Days.{day, last_moment}
use Rattle.vault_tally.specs.declared.row.Row.{Row}
use Rattle.vault_tally.specs.Row.{Item, IsRowOf, AreBounded, last_day}
use Rattle.vault_core_model.specs.Vault.{Vault}
use Rattle.vault_core_model.specs.Sound.{Sound}
use Rattle.vault_core_model.specs.Totals.{IsRowFor}

-- the sums by days of a row, and what a charge up to that day adds up, are below 2^63
pub record IsFarBelow (row : Row) (today : ℕ) : Type 0 where
  pub weighted : row.weighted < 2 ^ 63
  pub closed : row.closed < 2 ^ 63
  pub held : row.held * today < 2 ^ 63
  pub charged : row.closed + row.held * today < 2 ^ 63

-- so of the row of any versions whose days are in order and that are within the quota
abbrev pub RowsAreFarBelow : Type 0
RowsAreFarBelow =
    (row : Row) (items : List Item) (today : ℕ) → IsRowOf row items → AreBounded items → today ≤ last_day → IsFarBelow row today

-- so of each department's row in a sound vault, at any moment
abbrev pub DepartmentsAreFarBelow : Type 0
DepartmentsAreFarBelow =
    (v : Vault) (dept : List ℕ) (row : Row) (t : ℕ)
    → Sound v → v.last ≤ last_moment → t ≤ last_moment → IsRowFor v dept row → IsFarBelow row (day t)
