use Rattle.csv.specs.Records.{fields_of}
use Rattle.vault_files_intake.proofs.Commands.{command_made}
use Rattle.vault_files_intake.proofs.take_row.command.Goals as goal

pub returns-clause-asked : goal.returns-clause-asked
returns-clause-asked g c =
    command_made (g.F.Folder.files c.args.folder.now) c.args.bucket.now c.args.batch.now c.args.line (fields_of c.args.cells.now) _ _ _ _
    c.in_ok-row.ensures.value c.in_ok-found.ensures.value c.in_ok-content.ensures.value c.in_ok-intake.ensures
