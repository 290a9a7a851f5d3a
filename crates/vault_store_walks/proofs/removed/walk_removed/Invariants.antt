use Rattle.std.proofs.Common.{◌≡◌}
use Rattle.vault_store_walks.proofs.HandLemmas.{Walking}
use Rattle.vault_store_walks.proofs.removed.walk_removed.Given as goal

abbrev pub invariant-rows : goal.invariant-rows
invariant-rows g l =
    (l.rows.conn.ghost_name ≡ l.initial.rows.conn.ghost_name)
    × Walking g.S.Store g.T.Sink.takes l.fn.conn l.fn.sink l.rows.conn.now l.sink
