use Rattle.std.proofs.Common.{◌<◌, ◌+◌, [], ◌∷◌, ◌++◌, take, drop, get_or, length, arith}
use Rattle.vaultctl_replay.specs.Lines.{asked_in}
use Rattle.vaultctl_replay.specs.Runs.{Began}
use Rattle.vaultctl_replay.proofs.LineLemmas.{take_next, whole_cut}
use Rattle.vaultctl_replay.proofs.RunLemmas.{on_err, next_ok, next_part, next_err, err_more}
use Rattle.vaultctl_replay.proofs.lines.feed.Goals as goal

pub returns-in_err-take_byte-clause-err : goal.returns-in_err-take_byte-clause-err
returns-in_err-take_byte-clause-err g c =
    let at = c.loop-byte.byte-index in
    let s = c.args.piece.now in
    let within : at < length s = omega arith in
    let inv = c.loop-byte.invariant in
    let n = g.K.Kept.count c.args.keeper.now in
    let o = g.K.Kept.count c.loop-byte.keeper in
    let p = g.K.Kept.count c.take_byte.new.keeper in
    let first = g.K.Kept.vault c.args.keeper.now in
    let mid = g.K.Kept.vault c.loop-byte.keeper in
    let last = g.K.Kept.vault c.take_byte.new.keeper in
    let H = g.K.Kept.is_honest c.loop-byte.keeper in
    let G = g.K.Kept.is_honest c.take_byte.new.keeper in
    let u = g.W.Write.contents c.args.writer.now in
    let v = g.W.Write.contents c.loop-byte.writer in
    let w = g.W.Write.contents c.take_byte.new.writer in
    let most = c.args.room.most in
    let part = c.args.part.now.items in
    let now = c.loop-byte.part.items in
    let done = next_err H G c.take_byte.ensures.leaves.honest first mid last n o p u v w most part now (take at s) (get_or s at 0 ∷ []) inv.finished inv.rest c.in_err-take_byte.ensures.err in
    let whole = err_more most part (take at s ++ get_or s at 0 ∷ []) (drop (at + 1) s) G first last n p u w done in
    on_err {P = Began G first n u (asked_in most part s) last p w} c.from_residual.result (rw (← whole_cut s at within) at whole)

pub loop-byte-preserved : goal.loop-byte-preserved
loop-byte-preserved g c =
    let at = c.loop-byte.byte-index in
    let s = c.args.piece.now in
    let within : at < length s = omega arith in
    let inv = c.loop-byte.invariant in
    let n = g.K.Kept.count c.args.keeper.now in
    let o = g.K.Kept.count c.loop-byte.keeper in
    let p = g.K.Kept.count c.take_byte.new.keeper in
    let first = g.K.Kept.vault c.args.keeper.now in
    let mid = g.K.Kept.vault c.loop-byte.keeper in
    let last = g.K.Kept.vault c.take_byte.new.keeper in
    let H = g.K.Kept.is_honest c.loop-byte.keeper in
    let G = g.K.Kept.is_honest c.take_byte.new.keeper in
    let u = g.W.Write.contents c.args.writer.now in
    let v = g.W.Write.contents c.loop-byte.writer in
    let w = g.W.Write.contents c.take_byte.new.writer in
    let most = c.args.room.most in
    let part = c.args.part.now.items in
    let now = c.loop-byte.part.items in
    let done = next_ok H G c.take_byte.ensures.leaves.honest first mid last n o p u v w most part now (take at s) (get_or s at 0 ∷ []) inv.finished inv.rest c.in_ok-take_byte.ensures.ok in
    let left = next_part most part (take at s) (get_or s at 0 ∷ []) now c.take_byte.new.part.items inv.rest c.in_ok-take_byte.ensures.part in
    record {
      honest = λ h. inv.honest (c.take_byte.ensures.leaves.honest h);
      counted = omega (arith, inv.counted, c.take_byte.ensures.leaves.counted);
      finished = rw (← take_next s at within) at done;
      rest = rw (← take_next s at within) at left;
      bound = c.take_byte.ensures.bound;
    }
