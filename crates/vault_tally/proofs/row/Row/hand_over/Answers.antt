use Rattle.std.proofs.Common.{arith, ◌≡◌, ◌+◌, ◌*◌, ◌≤◌, ◌++◌, map, ap, subst, ◌∙◌}
use Rattle.std.specs.List.{sum_by}
use Rattle.std.proofs.lemmas.List.Sums.{sum_by-append}
use Rattle.vault_tally.specs.Row.{handed_item, size_of, admitted_size, received_size, held_size, removed_size, handed_size, weight, closed_byte_days, last_day}
use Rattle.vault_tally.proofs.Bounds.{within, hands_over, handed_days, handed_late, dated_last}
use Rattle.vault_tally.proofs.row.Row.hand_over.Goals as goal

pub returns : goal.returns
returns c = λ kept going h held b.
    let ys = map (handed_item c.args.day) going in
    let w = within (kept ++ ys) b in
    let r = hands_over c.args.day going held.held in
    let days : sum_by closed_byte_days ys + sum_by weight going ≡ c.args.bytes * c.args.day =
    handed_days c.args.day going held.held (dated_last kept ys b.dated) ∙ ap (λ n. n * c.args.day) held.bytes in
    let late = handed_late c.args.day going (dated_last kept ys b.dated) in
    let most : c.args.bytes * c.args.day ≤ c.args.bytes * last_day = subst (λ n. n * c.args.day ≤ n * last_day) held.bytes late in
    record {
      admitted = omega (arith, h.admitted, sum_by-append admitted_size kept going, sum_by-append admitted_size kept ys, r.admitted);
      received = omega (arith, h.received, sum_by-append received_size kept going, sum_by-append received_size kept ys, r.received);
      held = omega (arith, h.held, held.bytes, sum_by-append held_size kept going, sum_by-append held_size kept ys, r.held_before, r.held, c.saturating_sub-self.ensures);
      removed = omega (arith, h.removed, sum_by-append removed_size kept going, sum_by-append removed_size kept ys, r.removed_before, r.removed);
      handed = omega (arith, h.handed, held.bytes, w.sizes, w.balanced, sum_by-append handed_size kept going, sum_by-append handed_size kept ys, r.handed_before, r.handed, c.saturating_add-self.ensures);
      weighted = omega (arith, h.weighted, held.weighed, sum_by-append weight kept going, sum_by-append weight kept ys, r.weighted, c.saturating_sub-self-2.ensures);
      closed = omega (arith, h.closed, held.weighed, held.bytes, days, most, r.sizes, sum_by-append size_of kept ys, w.sizes, w.balanced, w.closed, sum_by-append closed_byte_days kept going, sum_by-append closed_byte_days kept ys, r.closed_before, c.saturating_mul.ensures, c.saturating_sub-byte_days.ensures, c.saturating_add-self-2.ensures);
    }
