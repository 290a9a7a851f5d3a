use Rattle.std.proofs.Common.{sym, ◌∙◌}
use Rattle.vault_core_model.specs.Change.{removed_by}
use Rattle.vault_core_list.proofs.ById.{changed-at, changed-nowhere}
use Rattle.vault_core_list.proofs.change.remove_among.Goals as goal

pub returns-in_default : goal.returns-in_default
returns-in_default c = changed-nowhere c.args.id (removed_by c.args.removal) c.args.histories.now (sym c.index_of.ensures ∙ c.in_default.is)

pub returns : goal.returns
returns c = changed-at c.args.id (removed_by c.args.removal) c.args.histories.now c.in-Some.index c.index-histories-index.result c.requires (sym c.index_of.ensures ∙ c.in-Some.is)
