use Rattle.sqlite.specs.Files.{file_state}
use Rattle.sqlite_wal.specs.Files.{image_at}
use Rattle.vaultctl_machine.proofs.FoundLemmas.{copied_of_earlier, held_of_earlier}
use Rattle.vaultctl_machine.proofs.RefusalLemmas.{both_close_as, closes_as, fails_for_its_row, reports_as, uncopied_from}
use Rattle.vaultctl_machine.specs.Refusals.{FailsForItsRow, IsUncopied, IsUncopiedFrom}
use Rattle.vaultctl_machine.proofs.migration.copy_into.Goals as goal

pub returns-in-Ok-clause-found : goal.returns-in-Ok-clause-found
returns-in-Ok-clause-found g c old new =
    let before = c.copy_file-source.ensures.clean old in
    copied_of_earlier c.args.external (image_at g.A.Start) _ (c.requires.opened before).0 (c.requires.found before) _ ((rw c.in-Ok.is at c.copy_file-source.ensures.found) old new)

pub returns-in-Ok-clause-held : goal.returns-in-Ok-clause-held
returns-in-Ok-clause-held g c m w held old new =
    let before = c.copy_file-source.ensures.clean old in
    held_of_earlier c.args.external (image_at g.A.Start) _ (c.requires.opened before).0 (c.requires.found before) _ ((rw c.in-Ok.is at c.copy_file-source.ensures.found) old new) m w held

pub returns-clause-reported : goal.returns-clause-reported
returns-clause-reported g c = reports_as IsUncopied c.refused.result c.in-Err.refusal c.refused.ensures.refusal c.refused.ensures.failure (rw c.in-Err.is at c.copy_file-source.ensures.reported)

pub returns-clause-lost : goal.returns-clause-lost
returns-clause-lost g c =
    let copied = c.copy_file-source in
    let image = image_at g.A.Start in
    closes_as _ _ copied.result.source (λ conn r. IsUncopiedFrom c.args.external image (file_state conn) r) _ c.in-Err.refusal c.refused.ensures.refusal c.let_go.ensures
    (uncopied_from image (file_state c.args.found.conn) (file_state copied.result.source) c.in-Err.refusal c.requires.opened c.requires.found c.args.external copied.ensures.clean
    (λ v sound. rw c.in-Err.is at (copied.ensures.undamaged v sound)))

pub returns-clause-healthy : goal.returns-clause-healthy
returns-clause-healthy g c =
    let copied = c.copy_file-source in
    let image = image_at g.A.Start in
    let source = copied.result.source in
    let target = c.in-Err.target in
    both_close_as _ _ _ _ source target (λ s t r. FailsForItsRow c.args.external image (file_state s) (file_state t) r) _ c.in-Err.refusal c.refused.ensures.refusal c.let_go.ensures c.let_go-had_no_room.ensures
    (fails_for_its_row c.args.external image (file_state c.args.found.conn) (file_state source) (file_state c.args.empty.conn) (file_state target) c.in-Err.refusal c.requires.opened c.requires.found c.requires.opened_new
    copied.ensures.clean (rw c.in-Err.is at copied.ensures.clean_new) (λ read written. rw c.in-Err.is at (copied.ensures.refused read written)))
