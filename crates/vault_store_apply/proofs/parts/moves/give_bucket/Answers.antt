use Rattle.std.proofs.Common.{rules}
use Rattle.vault_store_edits.proofs.ReadyLemmas.{edit_part, not_made, part_then, sound_part}
use Rattle.vault_store_apply.proofs.parts.moves.give_bucket.Goals as goal

pub returns-clause-part : goal.returns-clause-part
returns-clause-part g c =
    let all = part_then _ (edit_part _ c.in_ok-put_tenures.ensures.edit) (sound_part _ c.in_ok-set_owner.ensures.edit) in
    record { edits = all.edits; kept = all.kept; survives = all.survives }

pub returns-in_err-set_owner-clause-part : goal.returns-in_err-set_owner-clause-part
returns-in_err-set_owner-clause-part g c = not_made _ (part_then _ (edit_part _ c.in_ok-put_tenures.ensures.edit) (sound_part _ c.in_err-set_owner.ensures.edit)) (search rules)
