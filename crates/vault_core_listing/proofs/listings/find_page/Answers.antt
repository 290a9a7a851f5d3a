use Rattle.std.proofs.Common.{◌∙◌, ap, List, false}
use Rattle.vault_core_model.specs.declared.reply.Listed.{Listed}
use Rattle.vault_core_listing.specs.Walk.{asked_first, filled}
use Rattle.vault_core_listing.proofs.AllKeys.{page_is}
use Rattle.vault_core_listing.proofs.listings.find_page.Goals as goal

pub returns-clause-value : goal.returns-clause-value
returns-clause-value g c = λ honest.
    let v = g.K.Kept.vault c.args.keeper.now in
    let before = c.list_after.ensures.leaves.honest honest in
    page_is v (g.K.Kept.vault c.list_first.new.keeper) c.args.command.now c.list_after.new.page c.list_first.new.page
    (g.K.Kept.sound _ (c.list_first.ensures.leaves.honest before)) c.list_first.ensures.leaves.same
    (c.in_ok-list_first.ensures.value before ∙ ap (λ (ls : List Listed). filled c.args.command.now.most (record { entries = ls; more = false }) (asked_first v c.args.command.now)) c.new.ensures)
    (c.in_ok-list_after.ensures.value honest)
