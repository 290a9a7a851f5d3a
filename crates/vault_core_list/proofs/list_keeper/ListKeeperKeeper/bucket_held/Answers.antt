use Rattle.std.proofs.Common.{arith}
use Rattle.vault_core_laws.proofs.Holdings.{bytes-held, weight-held}
use Rattle.vault_core_list.proofs.list_keeper.ListKeeperKeeper.bucket_held.Goals as goal

pub held-requires-clause-weight_fits : goal.held-requires-clause-weight_fits
held-requires-clause-weight_fits c = rw c.deref.ensures.value (omega (arith, weight-held _ c.args.bucket.now c.self.invariant (omega arith)))

pub held-requires-clause-bytes_fit : goal.held-requires-clause-bytes_fit
held-requires-clause-bytes_fit c = rw c.deref.ensures.value (omega (arith, bytes-held _ c.args.bucket.now c.self.invariant))
