use Rattle.std.proofs.Common.{Some}
use Rattle.vaultctl_log.specs.declared.entry.Trouble.TheVariants as trouble
use Rattle.vaultctl_serve_lines.proofs.two_doors.TwoDoors.open.Goals as goal

-- a connection that couldn't be taken
pub returns-in-Err-clause-logged : goal.returns-in-Err-clause-logged
returns-in-Err-clause-logged g c = (Some trouble.Connection, c.miss.ensures.logged)
