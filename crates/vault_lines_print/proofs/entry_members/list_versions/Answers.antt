use Rattle.vault_lines_print.proofs.entry_members.list_versions.Goals as goal

pub returns-clause-spelled : goal.returns-clause-spelled
returns-clause-spelled c =
    (c.in_ok-members.ensures.spelled, (c.as_str.ensures.spelled, (c.as_str-2.ensures.spelled, (c.in_ok-put_id.ensures.spelled, (c.in_ok-put_number.ensures.range, tt)))))
