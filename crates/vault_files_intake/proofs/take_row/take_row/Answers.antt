use Rattle.std.proofs.lemmas.Result.{IfOk-weaker}
use Rattle.csv.specs.Records.{fields_of}
use Rattle.vault_files_intake.proofs.Commands.{command_judged}
use Rattle.vault_files_intake.proofs.take_row.take_row.Goals as goal

pub returns-in-Ok-clause-ok : goal.returns-in-Ok-clause-ok
returns-in-Ok-clause-ok g c = λ h.
    IfOk-weaker c.carried_out.result _ _
    (λ reply done. command_judged (g.F.Folder.files c.args.folder.now) c.args.batch.now.at c.args.batch.now.who.now c.args.batch.now.bucket.now c.args.batch.now.name.now c.args.line.now.number (fields_of c.args.line.now.cells.now) c.in-Ok.intake (g.K.Kept.vault c.args.keeper.now) reply (g.K.Kept.vault c.carried_out.new.keeper) c.in-Ok.ensures.asked done)
    (c.carried_out.ensures.ok h)
