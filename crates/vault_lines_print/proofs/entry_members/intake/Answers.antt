use Rattle.vault_lines_print.proofs.entry_members.intake.Goals as goal

pub returns-clause-spelled : goal.returns-clause-spelled
returns-clause-spelled c =
    (c.in_ok-members.ensures.spelled, (c.as_str.ensures.spelled, (c.in_ok-put_number.ensures.range, c.in_ok-put_version.ensures.spelled)))
