use Rattle.std.proofs.Common.{sym, ◌∙◌}
use Rattle.vault_store_apply.proofs.RemovalLemmas.{no_other}
use Rattle.vault_store_apply.proofs.entries.removal_context.find_newest_but.Goals as goal

pub returns-then-holds_no_other-clause-value : goal.returns-then-holds_no_other-clause-value
returns-then-holds_no_other-clause-value g c clean v was is =
    no_other v c.args.entry.now.bucket c.args.entry.now.key c.args.id c.args.head (sym c.holds_no_other.ensures ∙ c.if-holds_no_other.true) is
