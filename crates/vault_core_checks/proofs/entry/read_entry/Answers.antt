use Rattle.vault_core_checks.proofs.Current.{own_found}
use Rattle.vault_core_checks.proofs.entry.read_entry.Goals as goal

pub returns-clause-own : goal.returns-clause-own
returns-clause-own g c = λ honest. own_found (g.K.Kept.vault c.args.keeper.now) c.args.id c.entry.result (c.entry.ensures.value honest)
