use Rattle.vaultctl_work.proofs.HonestLemmas.{answered_by}
use Rattle.vaultctl_work.specs.Scene.{scene}
use Rattle.vaultctl_work.proofs.jobs.ReplayJobWork.carry_out.Goals as goal

pub returns-clause-done : goal.returns-clause-done
returns-clause-done g c = λ h.
    let answered = c.replay_observed.ensures in
    let old = scene (g.K.Kept.vault c.args.keeper.now) (g.R.Read.remaining c.args.reader.now) (g.W.Write.contents c.args.out.now) in
    let new = scene (g.K.Kept.vault c.replay_observed.new.keeper) (g.R.Read.remaining c.replay_observed.new.reader) (g.W.Write.contents c.replay_observed.new.writer) in
    let n = g.K.Kept.count c.args.keeper.now in
    let n' = g.K.Kept.count c.replay_observed.new.keeper in
    (answered.leaves.honest h, rw c.replayed.ensures (n, n', answered_by _ h old new n n' c.replay_observed.result answered.ok answered.err answered.read))
