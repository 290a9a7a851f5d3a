use Rattle.std.proofs.Common.{arith, ◌++◌, ◌∷◌}
use Rattle.vault_tally.specs.Row.{held_item, removed_item, admitted_size, received_size, held_size, removed_size, handed_size, weight, closed_byte_days}
use Rattle.vault_tally.proofs.Bounds.{within, sum_by-middle}
use Rattle.vault_tally.proofs.row.Row.remove.Goals as goal

pub returns : goal.returns
returns c = λ before first after h b.
    let x = held_item first c.args.size c.args.from_day in
    let y = removed_item first c.args.size c.args.from_day c.args.day in
    let w = within (before ++ y ∷ after) b in
    record {
      admitted = omega (arith, h.admitted, sum_by-middle admitted_size before x after, sum_by-middle admitted_size before y after);
      received = omega (arith, h.received, sum_by-middle received_size before x after, sum_by-middle received_size before y after);
      held = omega (arith, h.held, sum_by-middle held_size before x after, sum_by-middle held_size before y after, c.saturating_sub-self.ensures);
      removed = omega (arith, h.removed, w.sizes, w.balanced, sum_by-middle removed_size before x after, sum_by-middle removed_size before y after, c.saturating_add-self.ensures);
      handed = omega (arith, h.handed, sum_by-middle handed_size before x after, sum_by-middle handed_size before y after);
      weighted = omega (arith, h.weighted, w.sizes, w.balanced, sum_by-middle weight before x after, sum_by-middle weight before y after, c.saturating_mul.ensures, c.saturating_sub-self-2.ensures);
      closed = omega (arith, h.closed, w.sizes, w.balanced, w.closed, sum_by-middle closed_byte_days before x after, sum_by-middle closed_byte_days before y after, rw c.saturating_sub-days.ensures at c.saturating_mul-2.ensures, c.saturating_add-self-2.ensures);
    }
