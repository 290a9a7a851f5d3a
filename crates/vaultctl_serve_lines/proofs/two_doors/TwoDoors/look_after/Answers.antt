use Rattle.vaultctl_serve_lines.proofs.UntakenLemmas.{untaken-most, untaken-then}
use Rattle.vaultctl_serve_lines.proofs.two_doors.TwoDoors.look_after.Goals as goal

-- what was late, and what couldn't be opened
pub returns : goal.returns
returns g c = record {
  logged =
      untaken-then g.W.Write.contents c.args.self.now.log c.close_late.new.self.log c.open_waiting.new.self.log
      (untaken-most g.W.Write.contents c.args.self.now.log c.close_late.new.self.log c.close_late.ensures.logged)
      (untaken-most g.W.Write.contents c.close_late.new.self.log c.open_waiting.new.self.log c.open_waiting.ensures.logged);
}
