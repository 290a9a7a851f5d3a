use Rattle.std.proofs.Common.{Ok, refl}
use Rattle.vaultctl_commands.specs.declared.outcome.Outcome.TheVariants.{Refused}
use Rattle.vaultctl_perform.proofs.migrate.print_copied.Goals as goal

pub returns-in-Ok : goal.returns-in-Ok
returns-in-Ok g c = rw c.in-Ok.is (c.print_done.result, c.status.ensures.outcome, (c.print_done.ensures, tt))

pub returns-in-Err : goal.returns-in-Err
returns-in-Err g c = rw c.in-Err.is (Ok Refused, c.print_cause.ensures, (tt, (refl, refl)))
