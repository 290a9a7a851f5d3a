use Rattle.vaultctl_machine.proofs.OpeningLemmas.{finds_what_was_left}
use Rattle.vaultctl_machine.proofs.crashes.openings_follow.Goals as goal

pub returns : goal.returns
returns g c = record { next = finds_what_was_left g.E.Disk c.args.vault c.store_of.result c.store_of.ensures.alone c.store_of.ensures.undone c.store_of.ensures.quiet c.store_of.ensures.numbered }
