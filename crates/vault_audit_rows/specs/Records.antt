-- What a check of all rows of a table says, and rows that are to state records of one kind.
use Rattle.std.specs.Prelude.{◌≡◌, ℕ, Bool, true, false, List, [], ◌∷◌, ◌++◌, map, IsPermutation}
use Rattle.std.specs.List.{AllByRecursion}
use Rattle.sqlite_value.specs.Order.{Row}
use Rattle.sqlite.specs.State.{State, Shown, Begins}

-- each row of the answer passes, or one doesn't
abbrev pub Checked : (Row → Type 0) → List ℕ → State → State → Bool → Type 0
Checked Takes sql old new true = (rows : List Row) × Shown sql [] old new rows × AllByRecursion Takes rows
Checked Takes sql old new false = (rows : List Row) × (row : Row) × Begins sql [] new (rows ++ row ∷ []) × (¬ Takes row)

module _ {X : Type 0} (row_of : X → Row) (Is : X → Type 0) where
  -- the row holds such a record
  abbrev pub ReportsOne : Row → Type 0
  ReportsOne row = (x : X) × (row ≡ row_of x) × Is x

  -- these rows, in any order, are those of such records, or are not
  abbrev pub AreRecords : List Row → Bool → Type 0
  AreRecords source true = (xs : List X) × IsPermutation (map row_of xs) source × AllByRecursion Is xs
  AreRecords source false = (xs : List X) → IsPermutation (map row_of xs) source → ¬ AllByRecursion Is xs
