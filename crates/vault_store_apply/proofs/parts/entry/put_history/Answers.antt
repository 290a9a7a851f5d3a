use Rattle.std.proofs.Common.{rules}
use Rattle.vault_store_edits.proofs.TransactionLemmas.{on_ok_here}
use Rattle.vault_store_edits.proofs.ReadyLemmas.{edit_part, part_then, not_made}
use Rattle.vault_store_apply.proofs.parts.entry.put_history.Goals as goal

pub returns-clause-part : goal.returns-clause-part
returns-clause-part g c =
    let setting = rw c.as_slice.ensures at c.in_ok-put_first_setting.ensures.part in
    let tenure = rw c.as_slice-2.ensures at c.put_first_tenure.ensures.part in
    part_then _ (edit_part _ c.in_ok-put_entry.ensures.edit) (part_then _ c.in_ok-put_content_if_given.ensures.part (part_then _ c.in_ok-put_external_if_given.ensures.part (part_then _ setting tenure)))

pub returns-in_err-put_content_if_given-clause-part : goal.returns-in_err-put_content_if_given-clause-part
returns-in_err-put_content_if_given-clause-part g c =
    not_made _ (part_then _ (edit_part _ c.in_ok-put_entry.ensures.edit) c.in_err-put_content_if_given.ensures.part) (search rules)

pub returns-in_err-put_external_if_given-clause-part : goal.returns-in_err-put_external_if_given-clause-part
returns-in_err-put_external_if_given-clause-part g c =
    not_made _ (part_then _ (edit_part _ c.in_ok-put_entry.ensures.edit) (part_then _ c.in_ok-put_content_if_given.ensures.part c.in_err-put_external_if_given.ensures.part)) (search rules)

pub returns-in_err-put_first_setting-clause-part : goal.returns-in_err-put_first_setting-clause-part
returns-in_err-put_first_setting-clause-part g c =
    not_made _ (part_then _ (edit_part _ c.in_ok-put_entry.ensures.edit) (part_then _ c.in_ok-put_content_if_given.ensures.part (part_then _ c.in_ok-put_external_if_given.ensures.part c.in_err-put_first_setting.ensures.part))) (search rules)

pub returns-clause-typed : goal.returns-clause-typed
returns-clause-typed g c = on_ok_here c.put_first_tenure.result (c.in_ok-put_entry.ensures.limits, rw c.as_slice.ensures at c.in_ok-put_first_setting.ensures.typed)
