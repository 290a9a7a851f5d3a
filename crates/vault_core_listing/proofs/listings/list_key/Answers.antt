use Rattle.std.proofs.Common.{rules, ◌∙◌, sym, arith, ap}
use Rattle.std.specs.Prelude.{slice_get}
use Rattle.vault_core_listing.specs.Walk.{asked_at, filled, grown}
use Rattle.vault_core_listing.proofs.KeyWalk.{begun, id_listed, key_not_asked, none_left, none_read}
use Rattle.vault_core_listing.proofs.Pages.{filled_full}
use Rattle.vault_core_listing.proofs.listings.list_key.Goals as goal
use Rattle.vault_core_listing.proofs.listings.list_key.Goals.{then-page-via-then-page, then-page-via-else-page+then-not-is_key_asked}

-- the page is cut off, or nothing is asked for of the key
pub returns-then-page-clause-value : goal.returns-then-page-clause-value
returns-then-page-clause-value g c = λ honest.
    let v = g.K.Kept.vault c.args.keeper.now in
    elim c.then-page.branch [
      | then-page-via-then-page w ↦ sym (filled_full c.args.command.now.most c.args.page.now (asked_at v c.args.command.now c.args.key.now) w.if-page.true)
      | then-page-via-else-page+then-not-is_key_asked w ↦ sym (ap (filled c.args.command.now.most c.args.page.now) (key_not_asked v c.args.command.now c.args.key.now (g.K.Kept.sound _ honest) (sym w.is_key_asked.ensures ∙ w.if-not-is_key_asked.true)))
    ]

-- no entry is asked for
pub returns-in_default-clause-value : goal.returns-in_default-clause-value
returns-in_default-clause-value g c = λ honest.
    none_read (g.K.Kept.vault c.args.keeper.now) c.args.command.now c.args.key.now c.args.page.now c.older_than-than.result c.ids_read.result c.in_ok-ids.ids.items
    (g.K.Kept.sound _ (c.ids.ensures.leaves.honest honest)) (sym c.is_key_asked.ensures ∙ c.if-not-is_key_asked.false) c.older_than-than.ensures c.ids_read.ensures (c.in_ok-ids.ensures.value honest)
    (c.in_default.ensures.value ∙ ap (λ ids. slice_get ids 0) c.deref.ensures.value)

pub loop-id-init : goal.loop-id-init
loop-id-init g c = record {
  leaves = search rules;
  left = λ honest.
      let read = c.find_newest.ensures.leaves.honest honest in
      begun (g.K.Kept.vault c.args.keeper.now) (g.K.Kept.vault c.ids.new.self) c.args.command.now c.args.key.now c.args.page.now c.older_than-than.result c.ids_read.result c.in_ok-ids.ids.items c.deref-id-items.result.now
      c.in-Some.first.now c.in_ok-newest.newest (g.K.Kept.sound _ (c.ids.ensures.leaves.honest read)) (sym c.is_key_asked.ensures ∙ c.if-not-is_key_asked.false) c.older_than-than.ensures c.ids_read.ensures
      (c.in_ok-ids.ensures.value read) c.ids.ensures.leaves.same c.deref-id-items.ensures.value (c.in-Some.ensures.value ∙ ap (λ ids. slice_get ids 0) c.deref.ensures.value) (c.in_ok-newest.ensures.value honest);
}

pub loop-id-preserved : goal.loop-id-preserved
loop-id-preserved g c = record {
  leaves = search rules;
  left = λ honest. id_listed (g.K.Kept.vault c.args.keeper.now) (g.K.Kept.vault c.loop-id.keeper) c.args.command.now c.args.key.now c.in_ok-newest.newest c.loop-id.page c.list_entry.new.page
      (filled c.args.command.now.most c.args.page.now (asked_at (g.K.Kept.vault c.args.keeper.now) c.args.command.now c.args.key.now)) c.deref-id-items.result.now c.loop-id.id-index c.id-item.result
      c.loop-id.invariant.leaves.same c.loop-id-test.true c.id-item.is
      (λ entry found. c.in_ok-list_entry.ensures.value honest entry found ∙ ap (λ b. grown c.args.command.now.most c.loop-id.page (record { entry = entry; current = b })) c.eq.ensures)
      (c.loop-id.invariant.left (c.list_entry.ensures.leaves.honest honest));
}

pub returns-clause-value : goal.returns-clause-value
returns-clause-value g c = λ honest. none_left (g.K.Kept.vault c.args.keeper.now) c.args.command.now c.args.key.now c.in_ok-newest.newest c.loop-id.page (filled c.args.command.now.most c.args.page.now (asked_at (g.K.Kept.vault c.args.keeper.now) c.args.command.now c.args.key.now)) c.deref-id-items.result.now c.loop-id.id-index (omega arith) (c.loop-id.invariant.left honest)
