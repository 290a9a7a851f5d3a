use Rattle.std.proofs.Common.{inr}
use Rattle.sqlite.specs.Files.{file_state}
use Rattle.sqlite_wal.specs.Files.{image_at}
use Rattle.vaultctl_machine.proofs.RefusalLemmas.{closes_as, uncopied_unmade}
use Rattle.vaultctl_machine.specs.Refusals.{IsUncopiedFrom}
use Rattle.vaultctl_machine.proofs.migration.copy_at.Goals as goal

pub returns-in-Err-connect_new-clause-lost : goal.returns-in-Err-connect_new-clause-lost
returns-in-Err-connect_new-clause-lost g c =
    let image = image_at g.A.Start in
    inr (closes_as _ _ c.in-Ok-connect_there.found.conn (λ conn r. IsUncopiedFrom c.args.copying.external image (file_state conn) r) _ _ c.create_error.ensures.refusal c.let_opened_go.ensures
    (uncopied_unmade c.args.copying.external image (file_state c.in-Ok-connect_there.found.conn) _ c.in-Err-connect_new.ensures.reported.stated))
