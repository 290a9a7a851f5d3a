use Rattle.std.proofs.Common.{arith, refl}
use Rattle.vaultctl_work.proofs.AskedLemmas.{steady_at, unread_steady_at}
use Rattle.vaultctl_work.proofs.asked.carry_out_asked.Goals as goal

pub returns-clause-leaves : goal.returns-clause-leaves
returns-clause-leaves g c =
    let left = c.carry_out.ensures.leaves in
    record {
      honest = left.honest;
      counted = left.counted;
      steady = steady_at _ c.args.asked.now _ _ _ _ _ _ _ c.args.asked.now.at c.in-Some.at c.in-Some.ensures left.steady;
    }

pub returns-in_default-clause-leaves : goal.returns-in_default-clause-leaves
returns-in_default-clause-leaves g c = record {
  honest = λ h. h;
  counted = omega arith;
  steady = unread_steady_at _ c.args.asked.now _ _ _ _ _ _ _ c.args.asked.now.at c.in_default.ensures (refl, (refl, c.print_refusal-refused.ensures.ok));
}
