use Rattle.vault_store_edits.proofs.TransactionLemmas.{on_err_here}
use Rattle.vault_store_edits.proofs.ReadyLemmas.{part_then, sound_part}
use Rattle.vault_store_apply.proofs.parts.bucket.NewDefaultPart.make.Goals as goal

pub returns-clause-edits : goal.returns-clause-edits
returns-clause-edits g c external clean inside ready =
    let did = (part_then _ (sound_part _ c.in_ok-set_default.ensures.edit) (sound_part _ c.in_ok-set_last.ensures.edit)).edits external clean inside ready in
    (did.0, did.1.sound)

pub returns-in_err-set_last-clause-kept : goal.returns-in_err-set_last-clause-kept
returns-in_err-set_last-clause-kept g c external clean inside ready = on_err_here _ ((part_then _ (sound_part _ c.in_ok-set_default.ensures.edit) (sound_part _ c.in_err-set_last.ensures.edit)).kept external clean inside ready)
