use Rattle.vaultctl_replay.specs.Lines.{last_of}
use Rattle.vaultctl_replay.proofs.RunLemmas.{Began-keeps, on_err}
use Rattle.vaultctl_replay.proofs.lines.finish.Goals as goal

pub returns-clause-err : goal.returns-clause-err
returns-clause-err g c =
    let before = c.args.keeper.now in
    let after = c.answer_last.new.keeper in
    let u = g.W.Write.contents c.args.writer.now in
    let v = g.W.Write.contents c.answer_last.new.writer in
    let w = g.W.Write.contents c.flush.new.writer in
    on_err c.flush.result
    (Began-keeps (g.K.Kept.is_honest after) (g.K.Kept.vault before) (g.K.Kept.vault after) (g.K.Kept.count before) (g.K.Kept.count after) u v w (last_of c.args.part.now) c.in_ok-answer_last.ensures.ok c.flush.ensures.keeps)
