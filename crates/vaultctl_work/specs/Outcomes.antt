-- What came of a job, by what its parts answer.
use Rattle.std.specs.Prelude.{Bool, true, false, Result, Ok, Err}
use Rattle.vaultctl_commands.specs.declared.fault.JobFault.{JobFault}
use Rattle.vaultctl_commands.specs.declared.fault.JobFault.TheVariants as fault
use Rattle.vaultctl_commands.specs.declared.outcome.Outcome.{Outcome}
use Rattle.vaultctl_commands.specs.declared.outcome.Outcome.TheVariants.{Done}
use Rattle.vaultctl_replay.specs.declared.fault.ReplayFault.{ReplayFault}
use Rattle.vaultctl_replay.specs.declared.fault.ReplayFault.TheVariants as replay
use Rattle.vaultctl_serve.specs.declared.fault.PortFault.{PortFault}
use Rattle.vaultctl_serve.specs.declared.fault.PortFault.TheVariants as port
use Rattle.vaultctl_serve_lines.specs.declared.fault.DoorFault.{DoorFault}
use Rattle.vaultctl_serve_lines.specs.Next.{Next}

-- a fault of a script, by its name
abbrev pub replay_fault : ReplayFault → JobFault
replay_fault replay.Read = fault.Read
replay_fault replay.Write = fault.Write
replay_fault replay.Memory = fault.Memory

-- a script is answered or a fault is reported, by its name
abbrev pub replayed : Result (Unit {0}) ReplayFault → Result Outcome JobFault
replayed (Ok t) = Ok Done
replayed (Err fault) = Err (replay_fault fault)

-- n requests were served, or a port isn't free
abbrev pub served : Result (Unit {0}) PortFault → Result Outcome JobFault
served (Ok t) = Ok Done
served (Err port.Device) = Err fault.Device

-- as many requests and lines were served, or a line ended the server; or nobody can listen at one of its doors
abbrev pub served_at_both : Result Next DoorFault → Result Outcome JobFault
served_at_both (Ok next) = Ok Done
served_at_both (Err door) = Err fault.Device

-- where a server's journal doesn't go on, that is what ended it
abbrev pub with_journal : Bool → Result Outcome JobFault → Result Outcome JobFault
with_journal true ended = ended
with_journal false (Ok outcome) = Err fault.Write
with_journal false (Err fault) = Err fault
