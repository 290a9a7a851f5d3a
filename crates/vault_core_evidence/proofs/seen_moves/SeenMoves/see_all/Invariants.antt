use Rattle.vault_core_evidence.proofs.MoveTests.{Left}
use Rattle.vault_core_evidence.proofs.seen_moves.SeenMoves.see_all.Given as goal

-- what all show is what those that are left show, after those before them
abbrev pub invariant-loop-tenure : goal.invariant-loop-tenure
invariant-loop-tenure l = record {
  left : Left l.fn.self l.bucket l.tenures l.self l.tenure-index;
}
