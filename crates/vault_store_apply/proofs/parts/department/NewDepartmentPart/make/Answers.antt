use Rattle.vault_store_edits.proofs.ReadyLemmas.{edit_part, part_then, sound_part}
use Rattle.vault_store_apply.proofs.parts.department.NewDepartmentPart.make.Goals as goal

pub returns-clause-edits : goal.returns-clause-edits
returns-clause-edits g c external clean inside ready =
    let did = (part_then _ (edit_part _ c.in_ok-put_department.ensures.edit) (sound_part _ c.in_ok-set_last.ensures.edit)).edits external clean inside ready in
    (did.0, did.1.sound)
