use Rattle.std.proofs.Common.{◌++◌, List, take}
use Rattle.vault_core_model.specs.Totals.{items_by, shares_of}
use Rattle.vault_tally.specs.Row.{Item, IsRowOf, AreBounded}
use Rattle.vault_core_list.proofs.sums.count_tenures.Given as goal

-- the sums over the tenures so far
abbrev pub invariant-loop-place : goal.invariant-loop-place
invariant-loop-place l = (items : List Item) → IsRowOf l.initial.row items → AreBounded (items ++ items_by l.dept (shares_of l.history)) → IsRowOf l.row (items ++ items_by l.dept (take l.place (shares_of l.history)))
