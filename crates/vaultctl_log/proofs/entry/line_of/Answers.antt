use Rattle.std.proofs.Common.{refl}
use Rattle.vaultctl_log.proofs.entry.line_of.Goals as goal

-- one part after another
pub returns : goal.returns
returns c =
    let asked = c.in_ok-push_asked.ensures in
    (asked.0, asked.1, rw (c.in_ok-push_counted.ensures, c.in_ok-push_result.ensures, c.trouble_of-trouble.ensures, asked.2, c.in_ok-line.ensures) refl)
