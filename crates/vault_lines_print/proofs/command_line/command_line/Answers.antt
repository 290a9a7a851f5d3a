use Rattle.vault_lines_print.proofs.Reading.{is-text, text-asks, text-has-no-lf, text-spells}
use Rattle.vault_lines_print.proofs.command_line.command_line.Goals as goal

pub returns-clause-text : goal.returns-clause-text
returns-clause-text c = is-text _ _ _ c.in_ok-value.ensures.value c.in_ok-value.ensures.spelled c.in_ok-text.ensures.text

pub returns-clause-spelled : goal.returns-clause-spelled
returns-clause-spelled c =
    text-spells _ _ _ c.in_ok-value.ensures.value c.in_ok-value.ensures.spelled c.in_ok-text.ensures.text c.text_is_utf8.ensures c.in_ok-text.ensures.reads_back

pub returns-clause-reads : goal.returns-clause-reads
returns-clause-reads c =
    text-asks _ _ _ c.in_ok-value.ensures.value c.in_ok-value.ensures.spelled c.in_ok-text.ensures.text c.text_is_utf8.ensures c.in_ok-text.ensures.reads_back

pub returns-clause-one_line : goal.returns-clause-one_line
returns-clause-one_line c = text-has-no-lf _ _ _ c.in_ok-value.ensures.value c.in_ok-value.ensures.spelled c.in_ok-text.ensures.text
