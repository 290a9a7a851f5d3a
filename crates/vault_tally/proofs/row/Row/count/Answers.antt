use Rattle.std.proofs.Common.{arith, ◌≡◌, ◌≤◌, ◌*◌, ◌-◌, ap, ℕ, Bool, true, false, not, Option, Some, None, refl, ◌++◌, ◌∷◌, [], if◌then◌else◌}
use Rattle.std.specs.Prelude.{min}
use Rattle.vault_tally.specs.Row.{tenure_item, admitted_size, received_size, held_size, removed_size, handed_size, weight, closed_byte_days, if_held, end_day}
use Rattle.vault_tally.proofs.Bounds.{within, sum_by-middle}
use Rattle.vault_tally.proofs.row.Row.count.Goals as goal

other_way : (b : Bool) (n : ℕ) → (if not b then n else 0) ≡ (if b then 0 else n)
other_way true n = refl
other_way false n = refl

-- 2^64 - 1, at which a sum or a product stops
abbrev largest_sum : ℕ
largest_sum = 18446744073709551615

-- a product that doesn't overflow where it counts
capped : (e : Option ℕ) (p q : ℕ) → q ≡ min p largest_sum → if_held e p 0 ≤ largest_sum → if_held e q 0 ≡ if_held e p 0
capped None p q is few = omega (arith, is, few)
capped (Some d) p q is few = refl

capped_over : (e : Option ℕ) (p q : ℕ) → q ≡ min p largest_sum → if_held e 0 p ≤ largest_sum → if_held e 0 q ≡ if_held e 0 p
capped_over None p q is few = refl
capped_over (Some d) p q is few = omega (arith, is, few)

over_other_way : (e : Option ℕ) (b : Bool) (n : ℕ) → if_held e 0 (if not b then n else 0) ≡ if_held e 0 (if b then 0 else n)
over_other_way e b n = ap (if_held e 0) (other_way b n)

pub returns : goal.returns
returns c = λ items h b.
    let x = tenure_item c.args.size c.args.first c.args.from_day c.args.ended c.args.last in
    let w = within (items ++ x ∷ []) b in
    let light : if_held c.args.ended (c.args.size * c.args.from_day) 0 ≤ largest_sum = omega (arith, w.sizes, w.balanced, w.weighted, sum_by-middle weight items x []) in
    let few : if_held c.args.ended 0 (c.args.size * (end_day c.args.ended 0 - c.args.from_day)) ≤ largest_sum = omega (arith, w.sizes, w.balanced, w.closed, sum_by-middle closed_byte_days items x []) in
    record {
      admitted = omega (arith, h.admitted, w.sizes, w.got, sum_by-middle admitted_size items x [], c.size_if.ensures, c.saturating_add-self.ensures);
      received = omega (arith, h.received, w.sizes, w.got, sum_by-middle received_size items x [], c.size_if-2.ensures, other_way c.args.first c.args.size, c.saturating_add-self-2.ensures);
      held = omega (arith, h.held, w.sizes, w.balanced, sum_by-middle held_size items x [], c.if_held.ensures, c.saturating_add-self-3.ensures);
      removed = omega (arith, h.removed, w.sizes, w.balanced, sum_by-middle removed_size items x [], rw c.size_if-3.ensures at c.if_held-2.ensures, c.saturating_add-self-4.ensures);
      handed = omega (arith, h.handed, w.sizes, w.balanced, sum_by-middle handed_size items x [], rw c.size_if-4.ensures at c.if_held-3.ensures, over_other_way c.args.ended c.args.last c.args.size, c.saturating_add-self-5.ensures);
      weighted = omega (arith, h.weighted, w.sizes, w.balanced, w.weighted, sum_by-middle weight items x [], c.if_held-4.ensures, light, capped c.args.ended (c.args.size * c.args.from_day) c.saturating_mul-weight.result c.saturating_mul-weight.ensures light, c.saturating_add-self-6.ensures);
      closed = omega (arith, h.closed, w.sizes, w.balanced, w.closed, sum_by-middle closed_byte_days items x [], c.if_held-5.ensures, few, capped_over c.args.ended (c.args.size * (end_day c.args.ended 0 - c.args.from_day)) c.saturating_mul-gone.result (rw c.days_to_end.ensures at c.saturating_mul-gone.ensures) few, c.saturating_add-self-7.ensures);
    }
