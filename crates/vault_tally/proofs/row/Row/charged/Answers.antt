use Rattle.std.proofs.Common.{◌*◌, ◌≤◌, arith}
use Rattle.std.specs.List.{sum_by}
use Rattle.std.proofs.Math.Nat.{mul-le-mul_left}
use Rattle.vault_tally.specs.Row.{held_size, last_day}
use Rattle.vault_tally.proofs.Bounds.{within, charged_is}
use Rattle.vault_tally.proofs.row.Row.charged.Goals as goal

pub returns : goal.returns
returns c = λ items h b a d.
    let k : sum_by held_size items * c.args.day ≤ sum_by held_size items * last_day = mul-le-mul_left (sum_by held_size items) d in
    rw (c.saturating_sub.ensures, c.saturating_add.ensures, c.saturating_mul.ensures, h.closed, h.held, h.weighted)
    (omega (arith, within items b, charged_is c.args.day items a))
