use Rattle.std.proofs.Common.{◌++◌, ◌∷◌, []}
use Rattle.std.proofs.lemmas.Result.{on_err_weaker}
use Rattle.std.specs.Prelude.{codes}
use Rattle.vaultctl_perform.proofs.PrintingLemmas.{begins_later, begins_sooner, on_err}
use Rattle.vaultctl_perform.proofs.messages.write_table_line.Goals as goal

pub returns-in_err-write_both-clause-err : goal.returns-in_err-write_both-clause-err
returns-in_err-write_both-clause-err g c =
    let before = g.E.Write.contents c.args.err.now in
    let begun = g.E.Write.contents c.write_both.new.err in
    let rest = c.args.what.now ++ codes " " ++ (c.args.table.now ++ 10 ∷ []) in
    on_err c.from_residual.result (begins_sooner before begun (c.args.deed.now ++ codes ": ") rest c.in_err-write_both.ensures.err)

pub returns-in_err-write_both-2-clause-err : goal.returns-in_err-write_both-2-clause-err
returns-in_err-write_both-2-clause-err g c =
    let before = g.E.Write.contents c.args.err.now in
    let between = g.E.Write.contents c.write_both.new.err in
    let begun = g.E.Write.contents c.write_both-2.new.err in
    let what = c.args.what.now ++ codes " " in
    let table = c.args.table.now ++ 10 ∷ [] in
    on_err c.from_residual-in_err-write_both-2.result
    (begins_later before between begun (c.args.deed.now ++ codes ": ") (what ++ table) c.in_ok-write_both.ensures.ok
    (begins_sooner between begun what table c.in_err-write_both-2.ensures.err))

pub returns-clause-err : goal.returns-clause-err
returns-clause-err g c =
    let before = g.E.Write.contents c.args.err.now in
    let between = g.E.Write.contents c.write_both.new.err in
    let later = g.E.Write.contents c.write_both-2.new.err in
    let begun = g.E.Write.contents c.write_both-3.new.err in
    let what = c.args.what.now ++ codes " " in
    let table = c.args.table.now ++ 10 ∷ [] in
    on_err_weaker c.write_both-3.result
    (λ h. begins_later before between begun (c.args.deed.now ++ codes ": ") (what ++ table) c.in_ok-write_both.ensures.ok
    (begins_later between later begun what table c.in_ok-write_both-2.ensures.ok h))
    c.write_both-3.ensures.err
