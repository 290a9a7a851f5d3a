use Rattle.std.proofs.Common.{inl, refl}
use Rattle.std.proofs.lemmas.Result.{IfOk-weaker}
use Rattle.vault_http.proofs.JudgingLemmas.{head_comes}
use Rattle.vault_http.proofs.judging.judge_request.Goals as goal

pub returns-in-Nothing-clause-judged : goal.returns-in-Nothing-clause-judged
returns-in-Nothing-clause-judged g c =
    let read = c.in_ok-read_head.ensures in
    (c.read_head.new.buf.items, read.taken, (rw c.in-Nothing.is at read.front, rw c.in-Nothing.is at read.some))

pub returns-in-NoHead-clause-judged : goal.returns-in-NoHead-clause-judged
returns-in-NoHead-clause-judged g c =
    let read = c.in_ok-read_head.ensures in
    let some = rw c.in-NoHead.is at read.some in
    (c.read_head.new.buf.items, read.taken, inl (refl, rw c.in-NoHead.is at read.front, some.0, some.1))

pub returns-clause-judged : goal.returns-clause-judged
returns-clause-judged g c =
    let read = c.in_ok-read_head.ensures in
    IfOk-weaker c.judge_head.result _ _
    (λ j comes. (c.read_head.new.buf.items, read.taken, head_comes c.args.hosts.now c.args.moment.now (g.R.Read.remaining c.args.reader.now) c.read_head.new.buf.items _ c.in-Head.spans (rw c.in-Head.is at read.front) j comes))
    (rw c.as_slice.ensures.value at c.judge_head.ensures.comes)
