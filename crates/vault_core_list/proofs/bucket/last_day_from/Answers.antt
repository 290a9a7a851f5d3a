use Rattle.std.proofs.Common.{sym, ◌∙◌, ap}
use Rattle.std.specs.Option.{option_copied}
use Rattle.vault_core_list.proofs.LastTenures.{last_day_from-last}
use Rattle.vault_core_list.proofs.bucket.last_day_from.Goals as goal

pub returns : goal.returns
returns c = c.day.ensures ∙ last_day_from-last c.args.tenures.now c.in-Some.last.now (rw c.as_slice.ensures at (sym c.last.ensures.value ∙ ap option_copied c.in-Some.is))
