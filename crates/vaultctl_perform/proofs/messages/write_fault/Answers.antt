use Rattle.std.proofs.lemmas.Result.{on_err_weaker}
use Rattle.vaultctl_commands.specs.Faults.{fault_words}
use Rattle.vaultctl_perform.specs.Named.{fault_line}
use Rattle.vaultctl_perform.proofs.PrintingLemmas.{begins_later, begins_sooner, on_err}
use Rattle.vaultctl_perform.proofs.messages.write_fault.Goals as goal

pub returns-in_err-write_line-clause-err : goal.returns-in_err-write_line-clause-err
returns-in_err-write_line-clause-err g c =
    let before = g.E.Write.contents c.args.err.now in
    let begun = g.E.Write.contents c.write_line.new.err in
    on_err c.from_residual.result
    (begins_sooner before begun (fault_line c.args.subcommand.now c.args.fault) (fault_words c.args.fault) (rw c.name.ensures at c.in_err-write_line.ensures.err))

pub returns-clause-err : goal.returns-clause-err
returns-clause-err g c =
    let before = g.E.Write.contents c.args.err.now in
    let between = g.E.Write.contents c.write_line.new.err in
    let begun = g.E.Write.contents c.write_bytes.new.writer in
    on_err_weaker c.write_bytes.result
    (begins_later before between begun (fault_line c.args.subcommand.now c.args.fault) (fault_words c.args.fault) (rw c.name.ensures at c.in_ok-write_line.ensures.ok))
    (rw (c.as_bytes.ensures.value, c.words.ensures) at c.write_bytes.ensures.err)
