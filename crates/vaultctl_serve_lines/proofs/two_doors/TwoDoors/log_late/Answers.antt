use Rattle.std.proofs.Common.{Some}
use Rattle.vaultctl_log.specs.declared.entry.Trouble.TheVariants as trouble
use Rattle.vaultctl_serve_lines.proofs.two_doors.TwoDoors.log_late.Goals as goal

-- a line was begun
pub returns-then-has_begun-clause-logged : goal.returns-then-has_begun-clause-logged
returns-then-has_begun-clause-logged g c = (Some trouble.Late, c.log_trouble.ensures.logged)
