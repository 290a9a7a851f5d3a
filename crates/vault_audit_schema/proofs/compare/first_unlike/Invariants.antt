use Rattle.std.proofs.Common.{◌≡◌, map, take}
use Rattle.vault_audit_schema.proofs.compare.first_unlike.Given as goal

abbrev pub invariant-loop-at : goal.invariant-loop-at
invariant-loop-at g l = take l.at l.parts ≡ take l.at (map g.F.Form.shape l.forms)
