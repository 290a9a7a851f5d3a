use Rattle.std.proofs.Common.{rules, ◌≤◌, sym}
use Rattle.vault_base.specs.Days.{last_moment}
use Rattle.vault_core_records.proofs.Report.{report_is}
use Rattle.vault_core_records.proofs.records.sums_of.Goals as goal

pub returns-clause-value : goal.returns-clause-value
returns-clause-value g c = λ honest.
    let before = c.totals.ensures.leaves.honest honest in
    let early : c.args.at ≤ last_moment = search rules in
    sym (report_is (g.K.Kept.vault c.args.keeper.now) c.args.dept.now c.in_ok-clone.field-0 c.args.at c.day.result c.charged.result c.in_ok-row.row
    (g.K.Kept.sound _ before) (c.requires.in_time before) early (c.in_ok-row.ensures.value honest) c.in_ok-clone.ensures.cases c.day.ensures c.charged.ensures)
