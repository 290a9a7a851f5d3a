use Rattle.std.proofs.Common.{refl}
use Rattle.vault_lines_json.specs.Rules.{noncurrent_spelled}
use Rattle.vault_lines_json.proofs.FaultLemmas.{gives-failed}
use Rattle.vault_lines_json.proofs.rules.noncurrent_spelled.Goals as goal

pub returns-in_err-days : goal.returns-in_err-days
unfolding noncurrent_spelled
returns-in_err-days c = gives-failed _ _ _ _ c.from_residual.ensures.1 c.in_err-days.ensures

pub returns-in_err-newer : goal.returns-in_err-newer
unfolding noncurrent_spelled
returns-in_err-newer c = rw c.in_ok-days.ensures (gives-failed _ _ _ _ c.from_residual-in_err-newer.ensures.1 c.in_err-newer.ensures)

pub returns : goal.returns
unfolding noncurrent_spelled
returns c = rw (c.in_ok-days.ensures, c.in_ok-newer.ensures) refl
