use Rattle.std.proofs.Common.{sym, ◌∙◌, ap}
use Rattle.std.specs.Option.{option_copied}
use Rattle.vault_core_list.proofs.LastSettings.{last_lock-last}
use Rattle.vault_core_list.proofs.find.last_lock.Goals as goal

pub returns : goal.returns
returns c = last_lock-last c.args.settings.now c.in-Some.last.now (rw c.as_slice.ensures at (sym c.last.ensures.value ∙ ap option_copied c.in-Some.is))
