use Rattle.std.proofs.Common.{sym, ◌∙◌, ◌++◌, ◌∷◌, []}
use Rattle.vault_core_model.specs.declared.records.History.{History}
use Rattle.vault_core_list.proofs.ById.{changed-at, changed-nowhere}
use Rattle.vault_core_list.proofs.change.add_setting_among.Goals as goal

pub returns-in_default-clause-ok : goal.returns-in_default-clause-ok
returns-in_default-clause-ok c =
    changed-nowhere c.args.id (λ (h : History). record h { settings = h.settings ++ c.args.setting.now ∷ [] }) c.args.histories.now (sym c.index_of.ensures ∙ c.in_default.is)

pub returns-clause-ok : goal.returns-clause-ok
returns-clause-ok c =
    rw c.in_ok-history.ensures (changed-at c.args.id (λ (h : History). record h { settings = h.settings ++ c.args.setting.now ∷ [] }) c.args.histories.now c.in-Some.index c.index-histories-index.result c.requires (sym c.index_of.ensures ∙ c.in-Some.is))
