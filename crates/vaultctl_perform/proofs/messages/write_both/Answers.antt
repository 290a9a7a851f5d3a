use Rattle.std.proofs.lemmas.Result.{on_err_weaker}
use Rattle.vaultctl_perform.proofs.PrintingLemmas.{begins_later, begins_sooner, on_err}
use Rattle.vaultctl_perform.proofs.messages.write_both.Goals as goal

pub returns-in_err-write_bytes-clause-err : goal.returns-in_err-write_bytes-clause-err
returns-in_err-write_bytes-clause-err g c =
    let before = g.E.Write.contents c.args.err.now in
    let begun = g.E.Write.contents c.write_bytes.new.writer in
    on_err c.from_residual.result (begins_sooner before begun c.args.first.now c.args.second.now (rw c.as_bytes.ensures.value at c.in_err-write_bytes.ensures.err))

pub returns-clause-err : goal.returns-clause-err
returns-clause-err g c =
    let before = g.E.Write.contents c.args.err.now in
    let between = g.E.Write.contents c.write_bytes.new.writer in
    let begun = g.E.Write.contents c.write_bytes-2.new.writer in
    on_err_weaker c.write_bytes-2.result
    (begins_later before between begun c.args.first.now c.args.second.now (rw c.as_bytes.ensures.value at c.in_ok-write_bytes.ensures.ok))
    (rw c.as_bytes-2.ensures.value at c.write_bytes-2.ensures.err)
