use Rattle.std.proofs.Common.{sym, ◌∙◌, ap}
use Rattle.std.specs.Option.{option_copied}
use Rattle.vault_core_evidence.proofs.Settings.{lock-last}
use Rattle.vault_core_evidence.proofs.history.last_lock.Goals as goal

pub returns : goal.returns
returns c = lock-last c.args.settings.now c.in-Some.last.now (sym c.last.ensures.value ∙ ap option_copied c.in-Some.is)
