use Rattle.vaultctl_machine.proofs.OpeningLemmas.{ok_by}
use Rattle.vaultctl_machine.proofs.crashes.open_after_a_crash.Goals as goal

pub returns : goal.returns
returns g c = record { again = λ clean may. ok_by _ _ c.open.result (λ vault opened disk. c.openings_follow-left.ensures.next clean _ may vault.conn (opened disk)) c.open.ensures.opened }
