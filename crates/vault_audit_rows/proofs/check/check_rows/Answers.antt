use Rattle.sqlite.specs.Held.{state}
use Rattle.vault_audit_rows.proofs.WalkLemmas.{checked}
use Rattle.vault_audit_rows.proofs.check.check_rows.Goals as goal

pub returns-clause-checked : goal.returns-clause-checked
returns-clause-checked g c clean =
    checked (λ e. g.C.Check.takes e.check.now) c.args.sql.now (state g.S.Store c.args.conn.now) (state g.S.Store c.walk.new.conn) (record { check = c.args.check }) c.walk.new.pass c.walk.result (c.walk.ensures.walked clean)
