use Rattle.vault_core_run_laws.proofs.SumBounds.{rows_are_far_below, departments_are_far_below}
use Rattle.vault_core_run_laws.proofs.sums_stay_far_below.Goals as goal

pub returns-clause-rows : goal.returns-clause-rows
returns-clause-rows c = rows_are_far_below

pub returns-clause-departments : goal.returns-clause-departments
returns-clause-departments c = departments_are_far_below
