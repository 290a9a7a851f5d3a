use Rattle.vaultctl_commands.proofs.intake.take_in_and_print.Goals as goal

pub returns-clause-leaves : goal.returns-clause-leaves
returns-clause-leaves g c =
    let report = c.take_in-report.result in
    let left = c.take_in-report.ensures.leaves in
    record {
      honest = left.honest;
      counted = left.counted;
      steady = (report.rows.items, report.stopped, c.take_in-report.ensures.taken, c.print_report-stated.ensures.ok, left.device, left.steady);
    }
