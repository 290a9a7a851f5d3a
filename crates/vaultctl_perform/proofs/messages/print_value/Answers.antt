use Rattle.std.proofs.Common.{Ok, Err, refl}
use Rattle.vaultctl_commands.specs.declared.outcome.Outcome.TheVariants.{Refused}
use Rattle.vaultctl_perform.proofs.messages.print_value.Goals as goal

pub returns-in-Ok : goal.returns-in-Ok
returns-in-Ok g c = (Ok Refused, refl, (refl, c.in-Ok.ensures.ok.1))

pub returns-in-Err : goal.returns-in-Err
returns-in-Err g c = (Err c.in-Err.fault, c.print_fault.ensures.status, tt)
