use Rattle.std.proofs.Common.{arith, ◌≡◌, ◌*◌, ◌++◌, ap, ◌∙◌}
use Rattle.std.specs.List.{sum_by}
use Rattle.std.proofs.lemmas.List.Sums.{sum_by-append}
use Rattle.vault_tally.specs.Row.{received_items, admitted_size, received_size, held_size, removed_size, handed_size, weight, closed_byte_days}
use Rattle.vault_tally.proofs.Bounds.{within, received_adds}
use Rattle.vault_tally.proofs.row.Row.receive.Goals as goal

pub returns : goal.returns
returns c = λ items sizes h is b.
    let xs = received_items c.args.day sizes in
    let w = within (items ++ xs) b in
    let r = received_adds c.args.day sizes in
    let weighed : sum_by weight xs ≡ c.args.bytes * c.args.day = r.weighted ∙ ap (λ n. n * c.args.day) is in
    record {
      admitted = omega (arith, h.admitted, sum_by-append admitted_size items xs, r.admitted);
      received = omega (arith, h.received, is, w.sizes, w.got, sum_by-append received_size items xs, r.received, c.saturating_add-self.ensures);
      held = omega (arith, h.held, is, w.sizes, w.balanced, sum_by-append held_size items xs, r.held, c.saturating_add-self-2.ensures);
      removed = omega (arith, h.removed, sum_by-append removed_size items xs, r.removed);
      handed = omega (arith, h.handed, sum_by-append handed_size items xs, r.handed);
      weighted = omega (arith, h.weighted, w.sizes, w.balanced, w.weighted, sum_by-append weight items xs, weighed, c.saturating_mul.ensures, c.saturating_add-self-3.ensures);
      closed = omega (arith, h.closed, sum_by-append closed_byte_days items xs, r.closed);
    }
