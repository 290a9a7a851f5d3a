use Rattle.std.proofs.Common.{refl, arith}
use Rattle.vault_core_evidence.proofs.MoveTests.{one_seen, one_fails, all_seen}
use Rattle.vault_core_evidence.proofs.seen_moves.SeenMoves.see_all.Goals as goal

pub loop-tenure-init : goal.loop-tenure-init
loop-tenure-init c = record { left = (refl, λ n. refl) }

pub loop-tenure-preserved : goal.loop-tenure-preserved
loop-tenure-preserved c = record {
  left = one_seen c.args.self.now c.loop-tenure.self c.see.new.self c.args.bucket.now c.args.tenures.now c.loop-tenure.tenure-index c.tenure-item.result c.in_ok-see.field-0
      c.loop-tenure-test.true c.tenure-item.is c.loop-tenure.invariant.left c.in_ok-see.ensures c.if-not-branch.false;
}

pub returns-then-not-branch : goal.returns-then-not-branch
returns-then-not-branch c =
    one_fails c.args.self.now c.loop-tenure.self c.see.new.self c.args.bucket.now c.args.tenures.now c.loop-tenure.tenure-index c.tenure-item.result c.in_ok-see.field-0
    c.loop-tenure-test.true c.tenure-item.is c.loop-tenure.invariant.left c.in_ok-see.ensures c.if-not-branch.true

pub returns : goal.returns
returns c = all_seen c.args.self.now c.loop-tenure.self c.args.bucket.now c.args.tenures.now c.loop-tenure.tenure-index (omega arith) c.loop-tenure.invariant.left
