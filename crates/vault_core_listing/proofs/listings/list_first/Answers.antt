use Rattle.std.proofs.Common.{List, sym, ap, subst, ◌≡◌, ◌∙◌}
use Rattle.std.specs.Prelude.{IfOk}
use Rattle.vault_core_model.specs.declared.reply.Listed.{Listed}
use Rattle.vault_core_listing.specs.Walk.{filled}
use Rattle.vault_core_listing.proofs.AllKeys.{is_first, no_first, none_first}
use Rattle.vault_core_listing.proofs.listings.list_first.Goals as goal

-- no id is given, and the listing doesn't begin at its prefix
pub returns-then-not-has_first-clause-value : goal.returns-then-not-has_first-clause-value
returns-then-not-has_first-clause-value g c = λ honest.
    sym (ap (filled c.args.command.now.most c.args.page.now) (none_first (g.K.Kept.vault c.args.keeper.now) c.args.command.now (g.K.Kept.sound _ honest) (sym c.has_first.ensures ∙ c.if-not-has_first.true)))

-- the listing begins at no key
pub returns-in_default-clause-value : goal.returns-in_default-clause-value
returns-in_default-clause-value g c = λ honest.
    sym (ap (filled c.args.command.now.most c.args.page.now) (no_first (g.K.Kept.vault c.args.keeper.now) c.args.command.now c.in_ok-begun.begun c.in_ok-key.field-0 c.in_ok-begun.ensures c.in_default.is c.in_ok-key.ensures))

-- it begins at a key
pub returns-clause-value : goal.returns-clause-value
returns-clause-value g c = λ honest.
    subst (λ (ls : List Listed). IfOk c.list_key.result (λ _. c.list_key.new.page ≡ filled c.args.command.now.most c.args.page.now ls))
    (is_first (g.K.Kept.vault c.args.keeper.now) c.args.command.now c.in_ok-begun.begun c.in_ok-key.field-0 c.in-Some.key c.in_ok-begun.ensures c.in-Some.is c.in_ok-key.ensures)
    (c.list_key.ensures.value honest)
