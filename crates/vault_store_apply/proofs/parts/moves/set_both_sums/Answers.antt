use Rattle.std.proofs.Common.{rules}
use Rattle.vault_store_edits.proofs.ReadyLemmas.{not_made, part_then, sound_part}
use Rattle.vault_store_apply.proofs.parts.moves.set_both_sums.Goals as goal

pub returns-clause-part : goal.returns-clause-part
returns-clause-part g c =
    let all = part_then _ (sound_part _ c.in_ok-set_sums.ensures.edit) (sound_part _ c.in_ok-set_sums-2.ensures.edit) in
    record { edits = all.edits; kept = all.kept; survives = all.survives }

pub returns-in_err-set_sums-2-clause-part : goal.returns-in_err-set_sums-2-clause-part
returns-in_err-set_sums-2-clause-part g c = not_made _ (part_then _ (sound_part _ c.in_ok-set_sums.ensures.edit) (sound_part _ c.in_err-set_sums-2.ensures.edit)) (search rules)
