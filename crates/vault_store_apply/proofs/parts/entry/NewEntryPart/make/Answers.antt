use Rattle.vault_store_edits.proofs.TransactionLemmas.{on_err_here}
use Rattle.vault_store_edits.proofs.ReadyLemmas.{part_then, sound_part}
use Rattle.vault_store_apply.proofs.parts.entry.NewEntryPart.make.Goals as goal

pub returns-clause-edits : goal.returns-clause-edits
returns-clause-edits g c external clean inside ready =
    let did = (part_then _ c.in_ok-put_history.ensures.part (part_then _ c.in_ok-put_newest.ensures.part (part_then _ c.in_ok-put_beside.ensures.part (sound_part _ c.in_ok-set_last_and_next.ensures.edit)))).edits external clean inside ready in
    (did.0, did.1.sound)

pub returns-in_err-put_newest-clause-kept : goal.returns-in_err-put_newest-clause-kept
returns-in_err-put_newest-clause-kept g c external clean inside ready = on_err_here _ ((part_then _ c.in_ok-put_history.ensures.part c.in_err-put_newest.ensures.part).kept external clean inside ready)

pub returns-in_err-put_beside-clause-kept : goal.returns-in_err-put_beside-clause-kept
returns-in_err-put_beside-clause-kept g c external clean inside ready = on_err_here _ ((part_then _ c.in_ok-put_history.ensures.part (part_then _ c.in_ok-put_newest.ensures.part c.in_err-put_beside.ensures.part)).kept external clean inside ready)

pub returns-in_err-set_last_and_next-clause-kept : goal.returns-in_err-set_last_and_next-clause-kept
returns-in_err-set_last_and_next-clause-kept g c external clean inside ready = on_err_here _ ((part_then _ c.in_ok-put_history.ensures.part (part_then _ c.in_ok-put_newest.ensures.part (part_then _ c.in_ok-put_beside.ensures.part (sound_part _ c.in_err-set_last_and_next.ensures.edit)))).kept external clean inside ready)
