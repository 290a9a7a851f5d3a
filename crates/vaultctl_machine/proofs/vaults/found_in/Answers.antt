use Rattle.sqlite.specs.Files.{file_state}
use Rattle.sqlite_wal.specs.Files.{image_at}
use Rattle.vault_audit.specs.Whole.{IsReported}
use Rattle.vault_audit_model.specs.SchemaVersions.{edition_of}
use Rattle.vaultctl_machine.proofs.FoundLemmas.{was_clean, was_sound, found_in_files, held_in_files}
use Rattle.vaultctl_machine.proofs.OpeningLemmas.{opened_still}
use Rattle.vaultctl_machine.proofs.RefusalLemmas.{closes_as, refused_over, reports_as}
use Rattle.vaultctl_machine.specs.Refusals.{IsRefusedOver}
use Rattle.vaultctl_machine.proofs.vaults.found_in.Goals as goal

pub returns-in-Ok-clause-found : goal.returns-in-Ok-clause-found
returns-in-Ok-clause-found g c clean =
    let before = was_clean _ _ _ c.in-Ok.ensures.crash clean in
    let sound = was_sound (edition_of _) _ _ _ (c.in-Ok.ensures.same clean) (c.in-Ok.ensures.sound clean) in
    found_in_files _ (image_at g.S.Start) _ _ (c.requires.opened before).0 (c.requires.found before) sound

pub returns-in-Ok-clause-held : goal.returns-in-Ok-clause-held
returns-in-Ok-clause-held g c w held clean =
    let before = was_clean _ _ _ c.in-Ok.ensures.crash clean in
    let sound = was_sound (edition_of _) _ _ _ (c.in-Ok.ensures.same clean) (c.in-Ok.ensures.sound clean) in
    held_in_files _ (image_at g.S.Start) _ _ (c.requires.opened before).0 (c.requires.found before) sound (edition_of w.external) w held

pub returns-in-Ok-clause-opened : goal.returns-in-Ok-clause-opened
returns-in-Ok-clause-opened g c clean =
    let before = was_clean _ _ _ c.in-Ok.ensures.crash clean in
    let is = c.requires.opened before in
    opened_still (image_at g.S.Start) _ _ is.0 is.1 (c.requires.found before) (c.in-Ok.ensures.same clean)

pub returns-clause-reported : goal.returns-clause-reported
returns-clause-reported g c = reports_as IsReported c.refused.result c.in-Err.refusal c.refused.ensures.refusal c.refused.ensures.failure c.in-Err.ensures.reported

pub returns-clause-lost : goal.returns-clause-lost
returns-clause-lost g c =
    let store = c.in-Err.ensures in
    let image = image_at g.S.Start in
    closes_as _ _ c.in-Err.conn (λ conn r. IsRefusedOver image (file_state conn) r) _ c.in-Err.refusal c.refused.ensures.refusal c.let_go-had_no_room.ensures
    (refused_over image (file_state c.args.found.conn) (file_state c.in-Err.conn) c.in-Err.refusal c.requires.opened c.requires.found store.harmless store.healthy store.damaged)
