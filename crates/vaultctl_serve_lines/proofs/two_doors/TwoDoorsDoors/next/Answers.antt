use Rattle.std.proofs.Common.{Option, sym, subst}
use Rattle.vaultctl_serve_lines.specs.Troubles.{LogsUntaken}
use Rattle.vaultctl_serve_lines.proofs.UntakenLemmas.{arrived-any, untaken-none, untaken-then}
use Rattle.vaultctl_serve_lines.proofs.two_doors.TwoDoorsDoors.next.Goals as goal

-- the clock couldn't be read
pub returns-in_default-clause-silent : goal.returns-in_default-clause-silent
returns-in_default-clause-silent g c = untaken-none g.W.Write.contents c.args.self.now.log c.wait_counting.new.self.log c.wait_counting.ensures

-- the connections were seen to, and then something was taken, or nothing
pub returns-clause-silent : goal.returns-clause-silent
returns-clause-silent g c =
    untaken-then g.W.Write.contents c.args.self.now.log c.wait_counting.new.self.log c.take_ready.new.self.log
    (untaken-none g.W.Write.contents c.args.self.now.log c.wait_counting.new.self.log c.wait_counting.ensures)
    (untaken-then g.W.Write.contents c.wait_counting.new.self.log c.look_after.new.self.log c.take_ready.new.self.log c.look_after.ensures.logged c.take_ready.ensures.logged)

pub returns-clause-arrived : goal.returns-clause-arrived
returns-clause-arrived g c = arrived-any c.take_ready.result
