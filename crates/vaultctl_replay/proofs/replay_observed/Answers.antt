use Rattle.std.proofs.Common.{ℕ, List, [], ◌++◌, take, arith, append-nil}
use Rattle.std.proofs.lemmas.Result.{on_ok_weaker, on_err_weaker}
use Rattle.std.specs.Io.KnownBytes.{Consumes, IsAtEnd}
use Rattle.std.proofs.KnownBytes.{Consumes-trans, Consumes-kept}
use Rattle.vaultctl_replay.specs.Runs.{AnswersSome}
use Rattle.vaultctl_replay.proofs.LineLemmas.{most_kept}
use Rattle.vaultctl_replay.proofs.RunLemmas.{on_err, begun, next_ok, next_part, next_err, answers_all, answers_ended, answers_some, answers_some_last, none_read, Finished-keeps, finished_reached, began_reached, either_reached, some_steady, either_steady}
use Rattle.vaultctl_replay.proofs.replay_observed.Goals as goal

-- ---- at the end of the input

pub returns-in-Ok-eq0-clause-ok : goal.returns-in-Ok-eq0-clause-ok
returns-in-Ok-eq0-clause-ok g c =
    let inv = c.loop-turn.invariant in
    let so_far = Finished-keeps _ _ _ _ _ _ _ _ _ inv.finished c.flush.ensures.keeps in
    let n = g.K.Kept.count c.args.keeper.now in
    let o = g.K.Kept.count c.loop-turn.keeper in
    let p = g.K.Kept.count c.finish.new.keeper in
    let first = g.K.Kept.vault c.args.keeper.now in
    let mid = g.K.Kept.vault c.loop-turn.keeper in
    let last = g.K.Kept.vault c.finish.new.keeper in
    let H = g.K.Kept.is_honest c.loop-turn.keeper in
    let G = g.K.Kept.is_honest c.finish.new.keeper in
    let u = g.W.Write.contents c.args.writer.now in
    let v = g.W.Write.contents c.flush.new.writer in
    let w = g.W.Write.contents c.finish.new.writer in
    let now = rw c.as_slice.ensures.value at c.finish.ensures.ok in
    let read = rw append-nil at (Consumes-trans _ _ _ inv.taken [] inv.read (none_read _ _ _ _ c.in-Ok-eq0.field-0-test c.in-Ok-eq0.ensures.ok)) in
    on_ok_weaker c.finish.result
    (λ s. (
      inv.taken,
      read,
      c.in-Ok-eq0.ensures.end c.in-Ok-eq0.field-0-test (omega arith),
      answers_all H G c.finish.ensures.leaves.honest first mid last n o p u v w inv.taken c.loop-turn.part.items so_far inv.rest s,
    ))
    now

pub returns-in-Ok-eq0-clause-err : goal.returns-in-Ok-eq0-clause-err
returns-in-Ok-eq0-clause-err g c =
    let inv = c.loop-turn.invariant in
    let so_far = Finished-keeps _ _ _ _ _ _ _ _ _ inv.finished c.flush.ensures.keeps in
    let n = g.K.Kept.count c.args.keeper.now in
    let o = g.K.Kept.count c.loop-turn.keeper in
    let p = g.K.Kept.count c.finish.new.keeper in
    let first = g.K.Kept.vault c.args.keeper.now in
    let mid = g.K.Kept.vault c.loop-turn.keeper in
    let last = g.K.Kept.vault c.finish.new.keeper in
    let H = g.K.Kept.is_honest c.loop-turn.keeper in
    let G = g.K.Kept.is_honest c.finish.new.keeper in
    let u = g.W.Write.contents c.args.writer.now in
    let v = g.W.Write.contents c.flush.new.writer in
    let w = g.W.Write.contents c.finish.new.writer in
    let now = rw c.as_slice.ensures.value at c.finish.ensures.err in
    let read = rw append-nil at (Consumes-trans _ _ _ inv.taken [] inv.read (none_read _ _ _ _ c.in-Ok-eq0.field-0-test c.in-Ok-eq0.ensures.ok)) in
    on_err_weaker c.finish.result
    (λ s. (
      inv.taken,
      read,
      answers_some_last H G c.finish.ensures.leaves.honest first mid last n o p u v w inv.taken c.loop-turn.part.items so_far inv.rest _ (c.in-Ok-eq0.ensures.end c.in-Ok-eq0.field-0-test (omega arith)) s,
    ))
    now

pub returns-in-Ok-eq0-clause-leaves : goal.returns-in-Ok-eq0-clause-leaves
returns-in-Ok-eq0-clause-leaves g c =
    let inv = c.loop-turn.invariant in
    let so_far = Finished-keeps _ _ _ _ _ _ _ _ _ inv.finished c.flush.ensures.keeps in
    let n = g.K.Kept.count c.args.keeper.now in
    let o = g.K.Kept.count c.loop-turn.keeper in
    let p = g.K.Kept.count c.finish.new.keeper in
    let first = g.K.Kept.vault c.args.keeper.now in
    let mid = g.K.Kept.vault c.loop-turn.keeper in
    let last = g.K.Kept.vault c.finish.new.keeper in
    let H = g.K.Kept.is_honest c.loop-turn.keeper in
    let G = g.K.Kept.is_honest c.finish.new.keeper in
    let u = g.W.Write.contents c.args.writer.now in
    let v = g.W.Write.contents c.flush.new.writer in
    let w = g.W.Write.contents c.finish.new.writer in
    let ok = rw c.as_slice.ensures.value at c.finish.ensures.ok in
    let err = rw c.as_slice.ensures.value at c.finish.ensures.err in
    let read = rw append-nil at (Consumes-trans _ _ _ inv.taken [] inv.read (none_read _ _ _ _ c.in-Ok-eq0.field-0-test c.in-Ok-eq0.ensures.ok)) in
    let at_end = c.in-Ok-eq0.ensures.end c.in-Ok-eq0.field-0-test (omega arith) in
    record {
      honest = λ h. inv.honest (c.finish.ensures.leaves.honest h);
      counted = omega (arith, inv.counted, c.finish.ensures.leaves.counted);
      steady = (
        inv.taken,
        read,
        either_steady H G c.finish.ensures.leaves.honest first mid last n o p u v w inv.taken c.loop-turn.part.items _ at_end c.finish.result so_far inv.rest ok err,
      );
    }

pub returns-in-Ok-eq0-clause-reached : goal.returns-in-Ok-eq0-clause-reached
returns-in-Ok-eq0-clause-reached g c = λ h q.
    let inv = c.loop-turn.invariant in
    either_reached _ h _ _ _ _ _ _ _ c.finish.result c.finish.ensures.ok c.finish.ensures.err
    (finished_reached _ (c.finish.ensures.leaves.honest h) _ _ _ _ _ _ _ inv.finished q)

-- ---- where the lines of a piece weren't all answered

pub returns-in_err-feed-in-Ok-clause-err : goal.returns-in_err-feed-in-Ok-clause-err
returns-in_err-feed-in-Ok-clause-err g c =
    let inv = c.loop-turn.invariant in
    let so_far = Finished-keeps _ _ _ _ _ _ _ _ _ inv.finished c.flush.ensures.keeps in
    let n = g.K.Kept.count c.args.keeper.now in
    let o = g.K.Kept.count c.loop-turn.keeper in
    let p = g.K.Kept.count c.feed.new.keeper in
    let first = g.K.Kept.vault c.args.keeper.now in
    let mid = g.K.Kept.vault c.loop-turn.keeper in
    let last = g.K.Kept.vault c.feed.new.keeper in
    let H = g.K.Kept.is_honest c.loop-turn.keeper in
    let G = g.K.Kept.is_honest c.feed.new.keeper in
    let u = g.W.Write.contents c.args.writer.now in
    let v = g.W.Write.contents c.flush.new.writer in
    let w = g.W.Write.contents c.feed.new.writer in
    let piece = take c.in-Ok.n c.read_retrying.new.buf in
    let done = next_err H G c.feed.ensures.leaves.honest first mid last n o p u v w most_kept [] c.loop-turn.part.items inv.taken piece so_far inv.rest c.in_err-feed-in-Ok.ensures.err in
    let before = g.R.Read.remaining c.args.reader.now in
    let after = g.R.Read.remaining c.read_retrying.new.reader in
    on_err {P = (taken : List ℕ) × Consumes before after taken × AnswersSome G (IsAtEnd after) first n u taken last p w} c.from_residual-in_err-feed-in-Ok.result (
      inv.taken ++ piece,
      Consumes-trans _ _ _ inv.taken piece inv.read c.in-Ok.ensures.ok,
      answers_some G _ first last n p u w (inv.taken ++ piece) done,
    )

pub returns-in_err-feed-in-Ok-clause-leaves : goal.returns-in_err-feed-in-Ok-clause-leaves
returns-in_err-feed-in-Ok-clause-leaves g c =
    let inv = c.loop-turn.invariant in
    let so_far = Finished-keeps _ _ _ _ _ _ _ _ _ inv.finished c.flush.ensures.keeps in
    let n = g.K.Kept.count c.args.keeper.now in
    let o = g.K.Kept.count c.loop-turn.keeper in
    let p = g.K.Kept.count c.feed.new.keeper in
    let first = g.K.Kept.vault c.args.keeper.now in
    let mid = g.K.Kept.vault c.loop-turn.keeper in
    let last = g.K.Kept.vault c.feed.new.keeper in
    let H = g.K.Kept.is_honest c.loop-turn.keeper in
    let G = g.K.Kept.is_honest c.feed.new.keeper in
    let u = g.W.Write.contents c.args.writer.now in
    let v = g.W.Write.contents c.flush.new.writer in
    let w = g.W.Write.contents c.feed.new.writer in
    let piece = take c.in-Ok.n c.read_retrying.new.buf in
    let done = next_err H G c.feed.ensures.leaves.honest first mid last n o p u v w most_kept [] c.loop-turn.part.items inv.taken piece so_far inv.rest c.in_err-feed-in-Ok.ensures.err in
    record {
      honest = λ h. inv.honest (c.feed.ensures.leaves.honest h);
      counted = omega (arith, inv.counted, c.feed.ensures.leaves.counted);
      steady = (
        inv.taken ++ piece,
        Consumes-trans _ _ _ inv.taken piece inv.read c.in-Ok.ensures.ok,
        some_steady G _ first last n p u w (inv.taken ++ piece) (answers_some G _ first last n p u w (inv.taken ++ piece) done),
      );
    }

pub returns-in_err-feed-in-Ok-clause-reached : goal.returns-in_err-feed-in-Ok-clause-reached
returns-in_err-feed-in-Ok-clause-reached g c = λ h q.
    let inv = c.loop-turn.invariant in
    began_reached _ h _ _ _ _ _ _ _ c.in_err-feed-in-Ok.ensures.err
    (finished_reached _ (c.feed.ensures.leaves.honest h) _ _ _ _ _ _ _ inv.finished q)

-- ---- where the writer failed before a read

pub returns-in_err-flush-clause-err : goal.returns-in_err-flush-clause-err
returns-in_err-flush-clause-err g c =
    let inv = c.loop-turn.invariant in
    let so_far = Finished-keeps _ _ _ _ _ _ _ _ _ inv.finished c.flush.ensures.keeps in
    let n = g.K.Kept.count c.args.keeper.now in
    let o = g.K.Kept.count c.loop-turn.keeper in
    let first = g.K.Kept.vault c.args.keeper.now in
    let last = g.K.Kept.vault c.loop-turn.keeper in
    let H = g.K.Kept.is_honest c.loop-turn.keeper in
    let u = g.W.Write.contents c.args.writer.now in
    let w = g.W.Write.contents c.flush.new.writer in
    let before = g.R.Read.remaining c.args.reader.now in
    let after = g.R.Read.remaining c.loop-turn.reader in
    on_err {P = (taken : List ℕ) × Consumes before after taken × AnswersSome H (IsAtEnd after) first n u taken last o w} c.from_residual.result (
      inv.taken,
      inv.read,
      answers_some H _ first last n o u w inv.taken (begun H first last n o u w _ so_far),
    )

pub returns-in_err-flush-clause-leaves : goal.returns-in_err-flush-clause-leaves
returns-in_err-flush-clause-leaves g c =
    let inv = c.loop-turn.invariant in
    let so_far = Finished-keeps _ _ _ _ _ _ _ _ _ inv.finished c.flush.ensures.keeps in
    let n = g.K.Kept.count c.args.keeper.now in
    let o = g.K.Kept.count c.loop-turn.keeper in
    let first = g.K.Kept.vault c.args.keeper.now in
    let last = g.K.Kept.vault c.loop-turn.keeper in
    let H = g.K.Kept.is_honest c.loop-turn.keeper in
    let u = g.W.Write.contents c.args.writer.now in
    let w = g.W.Write.contents c.flush.new.writer in
    record {
      honest = inv.honest;
      counted = inv.counted;
      steady = (
        inv.taken,
        inv.read,
        some_steady H _ first last n o u w inv.taken (answers_some H _ first last n o u w inv.taken (begun H first last n o u w _ so_far)),
      );
    }

pub returns-in_err-flush-clause-reached : goal.returns-in_err-flush-clause-reached
returns-in_err-flush-clause-reached g c = λ h q. finished_reached _ h _ _ _ _ _ _ _ c.loop-turn.invariant.finished q

-- ---- where the reader failed

pub returns-in-Err-clause-err : goal.returns-in-Err-clause-err
returns-in-Err-clause-err g c =
    let inv = c.loop-turn.invariant in
    let so_far = Finished-keeps _ _ _ _ _ _ _ _ _ inv.finished c.flush.ensures.keeps in
    let n = g.K.Kept.count c.args.keeper.now in
    let o = g.K.Kept.count c.loop-turn.keeper in
    let first = g.K.Kept.vault c.args.keeper.now in
    let last = g.K.Kept.vault c.loop-turn.keeper in
    let H = g.K.Kept.is_honest c.loop-turn.keeper in
    let u = g.W.Write.contents c.args.writer.now in
    let w = g.W.Write.contents c.flush.new.writer in (
      inv.taken,
      Consumes-kept _ _ _ inv.taken inv.read c.in-Err.ensures.err,
      answers_some H _ first last n o u w inv.taken (begun H first last n o u w _ so_far),
    )

pub returns-in-Err-clause-read : goal.returns-in-Err-clause-read
returns-in-Err-clause-read g c = λ _.
    let inv = c.loop-turn.invariant in
    let so_far = Finished-keeps _ _ _ _ _ _ _ _ _ inv.finished c.flush.ensures.keeps in
    let n = g.K.Kept.count c.args.keeper.now in
    let o = g.K.Kept.count c.loop-turn.keeper in
    let first = g.K.Kept.vault c.args.keeper.now in
    let last = g.K.Kept.vault c.loop-turn.keeper in
    let H = g.K.Kept.is_honest c.loop-turn.keeper in
    let u = g.W.Write.contents c.args.writer.now in
    let w = g.W.Write.contents c.flush.new.writer in (
      inv.taken,
      Consumes-kept _ _ _ inv.taken inv.read c.in-Err.ensures.err,
      answers_ended H first last n o u w inv.taken so_far,
    )

pub returns-in-Err-clause-leaves : goal.returns-in-Err-clause-leaves
returns-in-Err-clause-leaves g c =
    let inv = c.loop-turn.invariant in
    let so_far = Finished-keeps _ _ _ _ _ _ _ _ _ inv.finished c.flush.ensures.keeps in
    let n = g.K.Kept.count c.args.keeper.now in
    let o = g.K.Kept.count c.loop-turn.keeper in
    let first = g.K.Kept.vault c.args.keeper.now in
    let last = g.K.Kept.vault c.loop-turn.keeper in
    let H = g.K.Kept.is_honest c.loop-turn.keeper in
    let u = g.W.Write.contents c.args.writer.now in
    let w = g.W.Write.contents c.flush.new.writer in
    record {
      honest = inv.honest;
      counted = inv.counted;
      steady = (
        inv.taken,
        Consumes-kept _ _ _ inv.taken inv.read c.in-Err.ensures.err,
        some_steady H _ first last n o u w inv.taken (answers_some H _ first last n o u w inv.taken (begun H first last n o u w _ so_far)),
      );
    }

pub returns-in-Err-clause-reached : goal.returns-in-Err-clause-reached
returns-in-Err-clause-reached g c = λ h q. finished_reached _ h _ _ _ _ _ _ _ c.loop-turn.invariant.finished q

-- ---- where the reader came to no end

pub returns-clause-err : goal.returns-clause-err
returns-clause-err g c =
    let inv = c.loop-turn.invariant in
    let so_far = inv.finished in
    let n = g.K.Kept.count c.args.keeper.now in
    let o = g.K.Kept.count c.loop-turn.keeper in
    let first = g.K.Kept.vault c.args.keeper.now in
    let last = g.K.Kept.vault c.loop-turn.keeper in
    let H = g.K.Kept.is_honest c.loop-turn.keeper in
    let u = g.W.Write.contents c.args.writer.now in
    let w = g.W.Write.contents c.loop-turn.writer in (
      inv.taken,
      inv.read,
      answers_some H _ first last n o u w inv.taken (begun H first last n o u w _ so_far),
    )

pub returns-clause-read : goal.returns-clause-read
returns-clause-read g c = λ _.
    let inv = c.loop-turn.invariant in
    let so_far = inv.finished in
    let n = g.K.Kept.count c.args.keeper.now in
    let o = g.K.Kept.count c.loop-turn.keeper in
    let first = g.K.Kept.vault c.args.keeper.now in
    let last = g.K.Kept.vault c.loop-turn.keeper in
    let H = g.K.Kept.is_honest c.loop-turn.keeper in
    let u = g.W.Write.contents c.args.writer.now in
    let w = g.W.Write.contents c.loop-turn.writer in (
      inv.taken,
      inv.read,
      answers_ended H first last n o u w inv.taken so_far,
    )

pub returns-clause-leaves : goal.returns-clause-leaves
returns-clause-leaves g c =
    let inv = c.loop-turn.invariant in
    let so_far = inv.finished in
    let n = g.K.Kept.count c.args.keeper.now in
    let o = g.K.Kept.count c.loop-turn.keeper in
    let first = g.K.Kept.vault c.args.keeper.now in
    let last = g.K.Kept.vault c.loop-turn.keeper in
    let H = g.K.Kept.is_honest c.loop-turn.keeper in
    let u = g.W.Write.contents c.args.writer.now in
    let w = g.W.Write.contents c.loop-turn.writer in
    record {
      honest = inv.honest;
      counted = inv.counted;
      steady = (
        inv.taken,
        inv.read,
        some_steady H _ first last n o u w inv.taken (answers_some H _ first last n o u w inv.taken (begun H first last n o u w _ so_far)),
      );
    }

pub returns-clause-reached : goal.returns-clause-reached
returns-clause-reached g c = λ h q. finished_reached _ h _ _ _ _ _ _ _ c.loop-turn.invariant.finished q

-- ---- a piece more

pub loop-turn-preserved : goal.loop-turn-preserved
loop-turn-preserved g c =
    let inv = c.loop-turn.invariant in
    let so_far = Finished-keeps _ _ _ _ _ _ _ _ _ inv.finished c.flush.ensures.keeps in
    let n = g.K.Kept.count c.args.keeper.now in
    let o = g.K.Kept.count c.loop-turn.keeper in
    let p = g.K.Kept.count c.feed.new.keeper in
    let first = g.K.Kept.vault c.args.keeper.now in
    let mid = g.K.Kept.vault c.loop-turn.keeper in
    let last = g.K.Kept.vault c.feed.new.keeper in
    let H = g.K.Kept.is_honest c.loop-turn.keeper in
    let G = g.K.Kept.is_honest c.feed.new.keeper in
    let u = g.W.Write.contents c.args.writer.now in
    let v = g.W.Write.contents c.flush.new.writer in
    let w = g.W.Write.contents c.feed.new.writer in
    let now = c.loop-turn.part.items in
    let piece = take c.in-Ok.n c.read_retrying.new.buf in
    record {
      taken = inv.taken ++ piece;
      read = Consumes-trans _ _ _ inv.taken piece inv.read c.in-Ok.ensures.ok;
      honest = λ h. inv.honest (c.feed.ensures.leaves.honest h);
      counted = omega (arith, inv.counted, c.feed.ensures.leaves.counted);
      finished = next_ok H G c.feed.ensures.leaves.honest first mid last n o p u v w most_kept [] now inv.taken piece so_far inv.rest c.in_ok-feed-in-Ok.ensures.ok;
      rest = next_part most_kept [] inv.taken piece now c.feed.new.part.items inv.rest c.in_ok-feed-in-Ok.ensures.part;
      bound = c.feed.ensures.bound;
    }
