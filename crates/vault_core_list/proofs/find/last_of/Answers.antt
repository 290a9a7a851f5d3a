use Rattle.std.proofs.Common.{sym, ◌∙◌, ap}
use Rattle.std.specs.Option.{option_copied}
use Rattle.vault_core_list.proofs.LastSettings.{last_setting-at}
use Rattle.vault_core_list.proofs.find.last_of.Goals as goal

pub returns : goal.returns
returns c = rw c.as_slice-settings.ensures (last_setting-at c.args.settings.now c.in-Some.last.now (rw c.as_slice-settings.ensures at (sym c.last.ensures.value ∙ ap option_copied c.in-Some.is)))
