use Rattle.std.proofs.Common.{rules}
use Rattle.vault_store_edits.proofs.ReadyLemmas.{edit_part, not_made, part_then, sound_part}
use Rattle.vault_store_apply.proofs.parts.entry.drop_content.Goals as goal

pub returns-clause-part : goal.returns-clause-part
returns-clause-part g c =
    part_then _ (sound_part _ c.in_ok-remove_entry.ensures.edit) (part_then _ (edit_part _ c.in_ok-delete_content.ensures.edit) c.delete_external_if.ensures.part)

pub returns-in_err-delete_content-clause-part : goal.returns-in_err-delete_content-clause-part
returns-in_err-delete_content-clause-part g c = not_made _ (part_then _ (sound_part _ c.in_ok-remove_entry.ensures.edit) (edit_part _ c.in_err-delete_content.ensures.edit)) (search rules)
