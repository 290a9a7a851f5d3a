use Rattle.std.proofs.Common.{◌≡◌, ◌∙◌, ◌<◌, ◌≤◌, ◌-◌, length, sym, ap, arith, Some}
use Rattle.std.specs.Prelude.{flat_map, slice_get}
use Rattle.vault_base.specs.Limits.{most_keys}
use Rattle.vault_core_model.specs.Reads.{later_keys}
use Rattle.vault_core_listing.specs.Walk.{asked_at, filled}
use Rattle.vault_core_listing.proofs.AllKeys.{key_named, last_page, next_page, past_page}
use Rattle.vault_core_listing.proofs.Pages.{filled_full}
use Rattle.vault_core_listing.proofs.listings.list_keys_after.Goals as goal
use Rattle.vault_core_listing.proofs.listings.list_keys_after.Goals.{then-len-via-then-len, then-len-via-else-len+then-is_past}

-- the page is cut off
pub returns-then-page-clause-value : goal.returns-then-page-clause-value
returns-then-page-clause-value g c = λ honest.
    let v = g.K.Kept.vault c.args.keeper.now in
    sym (filled_full c.args.command.now.most c.args.page.now (flat_map (asked_at v c.args.command.now) (later_keys v c.args.command.now.bucket c.args.after.now)) c.if-page.true)

-- fewer keys came than were asked for, or the last of them is past the prefix
pub returns-then-len-clause-value : goal.returns-then-len-clause-value
returns-then-len-clause-value g c = λ honest.
    let v = g.K.Kept.vault c.args.keeper.now in
    let mid = g.K.Kept.vault c.keys.new.self in
    let keys = c.in_ok-keys.keys.items in
    let before = c.list_keys.ensures.leaves.honest honest in
    let read = c.in_ok-keys.ensures.value before in
    let now = c.in_ok-list_keys.ensures.value honest ∙ ap (λ ks. filled c.args.command.now.most c.args.page.now (flat_map (asked_at mid c.args.command.now) ks)) c.as_slice.ensures.value in
    elim c.then-len.branch [
      | then-len-via-then-len w ↦
          let few : length keys < most_keys = omega (arith, ap length c.as_slice.ensures.value, c.as_slice.ensures.len, c.len.ensures, w.if-len.true) in
          last_page v mid c.args.command.now c.args.page.now c.list_keys.new.page c.args.after.now keys c.keys.ensures.leaves.same few read now
      | then-len-via-else-len+then-is_past w ↦
          let whole : most_keys ≤ length keys = omega (arith, ap length c.as_slice.ensures.value, c.as_slice.ensures.len, c.len.ensures, w.if-len.false) in
          let at : Some c.in-Some.last.now ≡ slice_get keys (length keys - 1) = c.in-Some.ensures.value ∙ ap (λ ks. slice_get ks (length ks - 1)) c.deref.ensures.value in
          past_page v mid c.args.command.now c.args.page.now c.list_keys.new.page c.args.after.now c.in-Some.last.now keys
          (g.K.Kept.sound _ (c.keys.ensures.leaves.honest before)) (sym w.is_past.ensures ∙ w.if-is_past.true) c.keys.ensures.leaves.same whole read at now
    ]

-- as many came as were asked for
pub returns-clause-value : goal.returns-clause-value
returns-clause-value g c = λ honest.
    let mid = g.K.Kept.vault c.keys.new.self in
    let keys = c.in_ok-keys.keys.items in
    let whole : most_keys ≤ length keys = omega (arith, ap length c.as_slice.ensures.value, c.as_slice.ensures.len, c.len.ensures) in
    let at : Some c.in-Some.last.now ≡ slice_get keys (length keys - 1) = c.in-Some.ensures.value ∙ ap (λ ks. slice_get ks (length ks - 1)) c.deref.ensures.value in
    next_page (g.K.Kept.vault c.args.keeper.now) mid c.args.command.now c.args.page.now c.list_keys.new.page c.args.after.now c.in-Some.last.now c.in_ok-to_prefix.field-0 keys
    c.keys.ensures.leaves.same whole (c.in_ok-keys.ensures.value (c.list_keys.ensures.leaves.honest honest)) at c.in_ok-to_prefix.ensures.value (key_named c.in-Some.last.now c.in_ok-to_prefix.ensures.named)
    (c.in_ok-list_keys.ensures.value honest ∙ ap (λ ks. filled c.args.command.now.most c.args.page.now (flat_map (asked_at mid c.args.command.now) ks)) c.as_slice.ensures.value)
