use Rattle.vault_store_edits.proofs.TransactionLemmas.{on_err_here}
use Rattle.vault_store_edits.proofs.ReadyLemmas.{part_then, sound_part}
use Rattle.vault_store_apply.proofs.parts.entry.RemovedEntryPart.make.Goals as goal

pub returns-clause-edits : goal.returns-clause-edits
returns-clause-edits g c external clean inside ready =
    let did = (part_then _ c.in_ok-drop_content.ensures.part (part_then _ c.in_ok-set_sums_of.ensures.part (part_then _ c.in_ok-leave_head.ensures.part (sound_part _ c.in_ok-set_last.ensures.edit)))).edits external clean inside ready in
    (did.0, did.1.sound)

pub returns-in_err-set_sums_of-clause-kept : goal.returns-in_err-set_sums_of-clause-kept
returns-in_err-set_sums_of-clause-kept g c external clean inside ready = on_err_here _ ((part_then _ c.in_ok-drop_content.ensures.part c.in_err-set_sums_of.ensures.part).kept external clean inside ready)

pub returns-in_err-leave_head-clause-kept : goal.returns-in_err-leave_head-clause-kept
returns-in_err-leave_head-clause-kept g c external clean inside ready = on_err_here _ ((part_then _ c.in_ok-drop_content.ensures.part (part_then _ c.in_ok-set_sums_of.ensures.part c.in_err-leave_head.ensures.part)).kept external clean inside ready)

pub returns-in_err-set_last-clause-kept : goal.returns-in_err-set_last-clause-kept
returns-in_err-set_last-clause-kept g c external clean inside ready = on_err_here _ ((part_then _ c.in_ok-drop_content.ensures.part (part_then _ c.in_ok-set_sums_of.ensures.part (part_then _ c.in_ok-leave_head.ensures.part (sound_part _ c.in_err-set_last.ensures.edit)))).kept external clean inside ready)
