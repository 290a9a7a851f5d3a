use Rattle.std.specs.Prelude.{is_ok}
use Rattle.vaultctl_serve_lines.proofs.two_doors.TwoDoors.log_trouble.Goals as goal

-- the entry of nothing that was asked or answered
pub returns-clause-logged : goal.returns-clause-logged
returns-clause-logged g c = (
  c.nothing.result.facts,
  is_ok c.log_entry.result,
  rw (c.nothing.ensures.bytes.0, c.nothing.ensures.bytes.1) at c.log_entry.ensures,
  c.nothing.ensures.door,
  c.nothing.ensures.trouble,
)
