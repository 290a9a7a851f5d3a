use Rattle.std.proofs.Common.{Ok, Err, refl}
use Rattle.vaultctl_commands.specs.declared.outcome.Outcome.TheVariants.{Done}
use Rattle.vaultctl_work.specs.Outcomes.{replay_fault}
use Rattle.vaultctl_perform.proofs.replay.from_new.Goals as goal

pub returns-in-Ok : goal.returns-in-Ok
returns-in-Ok g c = record { performed = (Ok Done, refl, c.in-Ok.ensures) }

pub returns-in-Err : goal.returns-in-Err
returns-in-Err g c = record { performed = (Err (replay_fault c.in-Err.fault), c.print_fault.ensures.status, c.in-Err.ensures) }
