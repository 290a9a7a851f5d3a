use Rattle.std.proofs.Common.{sym, ◌∙◌}
use Rattle.vaultctl_work.proofs.OutcomeLemmas.{not_done}
use Rattle.vaultctl_work.proofs.noting.serve_noted.Goals as goal

pub returns-clause-noted : goal.returns-clause-noted
returns-clause-noted g c = λ h old new begun before after.
    c.journals_lead_to_the_vault.ensures _ _ _ _ old new begun before after (c.serve_heard-ended.ensures.heard h)

pub returns-clause-open : goal.returns-clause-open
returns-clause-open g c = λ shut is. not_done _ c.serve_heard-ended.result (c.goes_on.ensures ∙ shut) (sym c.with_journal.ensures ∙ is)
