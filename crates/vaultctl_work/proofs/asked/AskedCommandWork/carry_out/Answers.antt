use Rattle.vaultctl_work.proofs.AskedLemmas.{done_honestly}
use Rattle.vaultctl_work.proofs.asked.AskedCommandWork.carry_out.Goals as goal

pub returns-clause-printed : goal.returns-clause-printed
returns-clause-printed g c = (c.carry_out_asked.ensures.printed, c.carry_out_asked.ensures.reader, c.carry_out_asked.ensures.device)

pub returns-clause-done : goal.returns-clause-done
returns-clause-done g c = λ h.
    let left = c.carry_out_asked.ensures.leaves in
    (left.honest h, done_honestly _ c.args.self.now _ _ _ _ _ _ _ h c.args.self.now.at left.steady)
