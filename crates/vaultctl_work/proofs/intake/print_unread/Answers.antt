use Rattle.std.proofs.lemmas.Result.{IfOk-weaker}
use Rattle.vaultctl_work.proofs.IntakeLemmas.{stop_stated}
use Rattle.vaultctl_work.proofs.intake.print_unread.Goals as goal

pub returns-clause-printed : goal.returns-clause-printed
returns-clause-printed g c = IfOk-weaker c.print_unread_list-stated.result _ _ (λ stated it. stop_stated stated _ _ it) c.print_unread_list-stated.ensures.ok

pub returns-clause-refused : goal.returns-clause-refused
returns-clause-refused g c = IfOk-weaker c.print_unread_list-stated.result _ _ (λ stated it. it.0) c.print_unread_list-stated.ensures.ok
