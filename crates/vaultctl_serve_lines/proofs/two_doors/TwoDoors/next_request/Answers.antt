use Rattle.vaultctl_log.specs.declared.entry.Door.TheVariants as door
use Rattle.vaultctl_log.specs.declared.entry.Trouble.TheVariants as trouble
use Rattle.vaultctl_serve_lines.proofs.UntakenLemmas.{untaken-none, untaken-one}
use Rattle.vaultctl_serve_lines.proofs.two_doors.TwoDoors.next_request.Goals as goal

pub returns-in-Some : goal.returns-in-Some
returns-in-Some g c = record { logged = untaken-none g.W.Write.contents c.args.self.now.log c.take_request.new.self.log c.in-Some.ensures.taken }

pub returns-in-None : goal.returns-in-None
returns-in-None g c = record { logged = untaken-one g.W.Write.contents c.args.self.now.log c.take_request.new.self.log door.Requests trouble.Connection (c.take_request.ensures.missed c.in-None.is) }
