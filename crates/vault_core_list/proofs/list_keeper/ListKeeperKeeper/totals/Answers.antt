use Rattle.std.proofs.Common.{arith}
use Rattle.vault_core_laws.proofs.Bounds.{items-bounded}
use Rattle.vault_core_list.proofs.list_keeper.ListKeeperKeeper.totals.Goals as goal

pub row-requires : goal.row-requires
row-requires c = rw c.deref.ensures.value (items-bounded _ _ c.self.invariant (omega arith))
