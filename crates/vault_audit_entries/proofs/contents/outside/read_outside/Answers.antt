use Rattle.std.proofs.Common.{false, ap}
use Rattle.sqlite_value.specs.Order.{Row, column}
use Rattle.vault_audit_entries.proofs.contents.outside.read_outside.Goals as goal

pub returns-in_err-marker : goal.returns-in_err-marker
returns-in_err-marker c = rw c.from_residual-in_err-marker.ensures (λ id limit row. c.in_err-marker.ensures false (ap (λ (r : Row). column r 1) row))
