use Rattle.vault_store_edits.proofs.TransactionLemmas.{on_err_here}
use Rattle.vault_store_edits.proofs.ReadyLemmas.{part_then, sound_part}
use Rattle.vault_store_apply.proofs.parts.moves.MovedBucketPart.make.Goals as goal

pub returns-clause-edits : goal.returns-clause-edits
returns-clause-edits g c external clean inside ready =
    let did = (part_then _ c.in_ok-give_bucket.ensures.part (part_then _ c.in_ok-set_both_sums.ensures.part (sound_part _ c.in_ok-set_last_and_moves.ensures.edit))).edits external clean inside ready in
    (did.0, did.1.sound)

pub returns-in_err-set_both_sums-clause-kept : goal.returns-in_err-set_both_sums-clause-kept
returns-in_err-set_both_sums-clause-kept g c external clean inside ready = on_err_here _ ((part_then _ c.in_ok-give_bucket.ensures.part c.in_err-set_both_sums.ensures.part).kept external clean inside ready)

pub returns-in_err-set_last_and_moves-clause-kept : goal.returns-in_err-set_last_and_moves-clause-kept
returns-in_err-set_last_and_moves-clause-kept g c external clean inside ready = on_err_here _ ((part_then _ c.in_ok-give_bucket.ensures.part (part_then _ c.in_ok-set_both_sums.ensures.part (sound_part _ c.in_err-set_last_and_moves.ensures.edit))).kept external clean inside ready)
