use Rattle.std.proofs.Common.{◌≡◌, ◌+◌, ◌<◌, ◌∙◌, arith, rules}
use Rattle.vault_base.specs.declared.refusal.Refusal.TheVariants as refusal
use Rattle.vault_files_intake.proofs.Counted.{none_stopped}
use Rattle.vault_files_intake.proofs.Taken.{row-taken, row-stops, lines-end}
use Rattle.vault_files_intake.proofs.intake.take_rows.Goals as goal

pub loop-cells-preserved : goal.loop-cells-preserved
loop-cells-preserved g c = record {
  honest = λ h. c.loop-cells.invariant.honest (c.take_next.ensures.leaves.honest h);
  reached = λ h before. c.take_next.ensures.reached h (c.loop-cells.invariant.reached (c.take_next.ensures.leaves.honest h) before);
  files = search rules;
  counted = search rules;
  counted_there = search rules;
  steady = λ none. c.in_default.ensures.leaves.steady none ∙ c.loop-cells.invariant.steady (c.in_default.ensures.above none);
  above = search rules;
  so_far = λ h.
      let one = rw c.loop-cells.invariant.files at (c.in_default.ensures.ok h) in
      let number : c.loop-cells.above + 1 ≡ c.loop-cells.cells-index + 1 = search rules in
      row-taken _ _ _ _ _ c.args.below.now c.loop-cells.cells-index c.cells-item.result _ _ _ _ _ _ c.loop-cells-test.true c.cells-item.is number (c.loop-cells.invariant.so_far (c.take_next.ensures.leaves.honest h)) one;
}

pub returns-in-Err-clause-taken : goal.returns-in-Err-clause-taken
returns-in-Err-clause-taken g c = λ h.
    let stated = c.in-Err.ensures.err h in
    row-stops _ _ _ _ _ c.args.below.now c.loop-cells.cells-index c.cells-item.result _ _ _ _ _ _ c.loop-cells-test.true c.cells-item.is (c.loop-cells.invariant.so_far (c.take_next.ensures.leaves.honest h)) stated.0 stated.1 stated.2

pub returns-then-above-clause-taken : goal.returns-then-above-clause-taken
returns-then-above-clause-taken g c = λ h.
    let full : c.loop-cells.above ≡ 4294967295 = search rules in
    let place = c.loop-cells.invariant.above in
    let many : 4294967295 < c.loop-cells.cells-index + 1 = omega (arith, full, place) in
    lines-end _ _ _ _ _ c.args.below.now c.loop-cells.cells-index c.cells-item.result _ _ _ c.loop-cells-test.true c.cells-item.is many (c.loop-cells.invariant.so_far h)

pub returns-in-Err-clause-leaves : goal.returns-in-Err-clause-leaves
returns-in-Err-clause-leaves g c =
    let inv = c.loop-cells.invariant in
    let left = c.in-Err.ensures.leaves in
    record {
      honest = λ h. inv.honest (left.honest h);
      counted = omega (arith, inv.counted, left.counted);
      counted_there = omega (arith, inv.counted_there, left.counted_there);
      device = search rules;
      steady = λ none. left.steady none ∙ inv.steady (c.in-Err.ensures.above none);
    }

pub returns-then-above-clause-leaves : goal.returns-then-above-clause-leaves
returns-then-above-clause-leaves g c =
    let inv = c.loop-cells.invariant in
    record {
      honest = inv.honest;
      counted = inv.counted;
      counted_there = inv.counted_there;
      device = search rules;
      steady = λ none. inv.steady (none_stopped c.loop-cells.rows.items refusal.EntityTooLarge none).0;
    }
