use Rattle.std.proofs.Common.{arith, true, ◌++◌, ◌∷◌, []}
use Rattle.vault_tally.specs.Row.{held_item, admitted_size, received_size, held_size, removed_size, handed_size, weight, closed_byte_days}
use Rattle.vault_tally.proofs.Bounds.{within, sum_by-middle}
use Rattle.vault_tally.proofs.row.Row.admit.Goals as goal

pub returns : goal.returns
returns c = λ items h b.
    let x = held_item true c.args.size c.args.day in
    let w = within (items ++ x ∷ []) b in
    record {
      admitted = omega (arith, h.admitted, w.sizes, w.got, sum_by-middle admitted_size items x [], c.saturating_add-self.ensures);
      received = omega (arith, h.received, sum_by-middle received_size items x []);
      held = omega (arith, h.held, w.sizes, w.balanced, sum_by-middle held_size items x [], c.saturating_add-self-2.ensures);
      removed = omega (arith, h.removed, sum_by-middle removed_size items x []);
      handed = omega (arith, h.handed, sum_by-middle handed_size items x []);
      weighted = omega (arith, h.weighted, w.sizes, w.balanced, w.weighted, sum_by-middle weight items x [], c.saturating_mul.ensures, c.saturating_add-self-3.ensures);
      closed = omega (arith, h.closed, sum_by-middle closed_byte_days items x []);
    }
