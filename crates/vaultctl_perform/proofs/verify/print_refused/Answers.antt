use Rattle.std.proofs.Common.{Ok, inl, inr, refl}
use Rattle.std.proofs.lemmas.Result.{IfOk-weaker}
use Rattle.vaultctl_commands.specs.declared.outcome.Outcome.TheVariants.{Refused}
use Rattle.vaultctl_perform.proofs.verify.print_refused.Goals as goal

pub returns-in-Damaged : goal.returns-in-Damaged
returns-in-Damaged g c =
    let it = c.print_unsound.ensures in
    (it.0, it.1, IfOk-weaker it.0 _ _ (λ stated said. (said.0, inr (c.in-Damaged.table, said.1))) it.2)

pub returns-in_default : goal.returns-in_default
returns-in_default g c = (Ok Refused, c.print_cause.ensures, (refl, inl refl))
