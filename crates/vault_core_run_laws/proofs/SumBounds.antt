-- The sums of a department stay below 2^63.
use Rattle.std.proofs.Common.{◌*◌, ◌≤◌, arith}
use Rattle.std.specs.List.{sum_by}
use Rattle.std.proofs.Math.Nat.{mul-le-mul_left}
use Rattle.vault_base.specs.Days.{day, last_moment}
use Rattle.vault_tally.specs.Row.{held_size, last_day}
use Rattle.vault_tally.proofs.Bounds.{within}
use Rattle.vault_core_model.specs.Totals.{items_of}
use Rattle.vault_core_laws.proofs.Bounds.{items-bounded, day-le}
use Rattle.vault_core_run_laws.specs.SumBounds.{RowsAreFarBelow, DepartmentsAreFarBelow}

pub rows_are_far_below : RowsAreFarBelow
rows_are_far_below row items today h b d =
    let w = within items b in
    let k : sum_by held_size items * today ≤ sum_by held_size items * last_day = mul-le-mul_left (sum_by held_size items) d in
    record {
      weighted = omega (arith, h.weighted, w);
      closed = omega (arith, h.closed, w);
      held = rw h.held (omega (arith, k, w));
      charged = rw h.held (omega (arith, k, h.closed, w));
    }

pub departments_are_far_below : DepartmentsAreFarBelow
departments_are_far_below v dept row t sound le early h =
    rows_are_far_below row (items_of v dept) (day t) h (items-bounded v dept sound le) (day-le t last_moment early)
