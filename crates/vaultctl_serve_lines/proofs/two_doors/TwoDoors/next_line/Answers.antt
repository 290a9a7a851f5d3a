use Rattle.vaultctl_serve_lines.proofs.UntakenLemmas.{untaken-most}
use Rattle.vaultctl_serve_lines.proofs.two_doors.TwoDoors.next_line.Goals as goal

pub returns-in-Some : goal.returns-in-Some
returns-in-Some g c = record { logged = untaken-most g.W.Write.contents c.args.self.now.log c.take_line.new.self.log c.take_line.ensures.logged }

pub returns-in-None : goal.returns-in-None
returns-in-None g c = record { logged = untaken-most g.W.Write.contents c.args.self.now.log c.take_line.new.self.log c.take_line.ensures.logged }
