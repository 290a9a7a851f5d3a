use Rattle.std.proofs.Common.{take}
use Rattle.vault_core_model.specs.Totals.{items_in}
use Rattle.vault_tally.specs.Row.{IsRowOf}
use Rattle.vault_core_list.proofs.sums.row.Given as goal

-- the sums over the versions so far
abbrev pub invariant-loop-history : goal.invariant-loop-history
invariant-loop-history l = IsRowOf l.row (items_in l.dept (take l.history-index l.histories))
