-- What a row of sums comes to, when a version is counted in, or its removal, or a bucket that goes or comes.
use Rattle.std.specs.Prelude.{◌≡◌, ℕ, Bool, true, List, [], ◌∷◌, ◌++◌, map, sum, Option}
use Rattle.vault_tally.specs.Row.{Item, IsRowOf, AreBounded, AreHeld, held_item, removed_item, handed_item, received_items}
use Rattle.vault_tally.specs.declared.row.Row.{Row}
use Rattle.vault_core_model.specs.declared.records.Tenure.{Tenure}
use Rattle.vault_core_model.specs.Reads.{tenures_of}
use Rattle.vault_core_model.specs.Sound.{last_tenure}
use Rattle.vault_core_model.specs.Vault.{Vault}

-- a version of that size, admitted on that day, is counted in
abbrev pub CountsIn : Row → ℕ → ℕ → Row → Type 0
CountsIn row size day new =
    (items : List Item) → IsRowOf row items → AreBounded (items ++ held_item true size day ∷ []) → IsRowOf new (items ++ held_item true size day ∷ [])

-- the removal, on the last of the days, of a version of that size that the department has from the first
abbrev pub CountsOut : Row → ℕ → ℕ → ℕ → Row → Type 0
CountsOut row size from day new =
    (before : List Item) (first : Bool) (after : List Item) → IsRowOf row (before ++ held_item first size from ∷ after)
    → AreBounded (before ++ removed_item first size from day ∷ after) → IsRowOf new (before ++ removed_item first size from day ∷ after)

-- versions that are held, of that size and weight in all, are handed over on that day
abbrev pub HandsOver : Row → ℕ → ℕ → ℕ → Row → Type 0
HandsOver row bytes weight day new =
    (kept going : List Item) → IsRowOf row (kept ++ going) → AreHeld bytes weight going
    → AreBounded (kept ++ map (handed_item day) going) → IsRowOf new (kept ++ map (handed_item day) going)

-- versions of that size in all are received on that day
abbrev pub Receives : Row → ℕ → ℕ → Row → Type 0
Receives row bytes day new =
    (items : List Item) (sizes : List ℕ) → IsRowOf row items → sum sizes ≡ bytes
    → AreBounded (items ++ received_items day sizes) → IsRowOf new (items ++ received_items day sizes)

-- the last tenure of the version of that id, which its removal ends; none where there is no such version
abbrev pub last_tenure_of : Vault → ℕ → Option Tenure
last_tenure_of v id = last_tenure (tenures_of v id)
