use Rattle.std.proofs.Common.{refl}
use Rattle.vault_lines_json.specs.Rules.{bounds_in}
use Rattle.vault_lines_json.proofs.FaultLemmas.{gives-failed}
use Rattle.vault_lines_json.proofs.rules.bounds_in.Goals as goal

pub returns-in_err-larger : goal.returns-in_err-larger
unfolding bounds_in
returns-in_err-larger c = gives-failed _ _ _ _ c.from_residual.ensures.1 c.in_err-larger.ensures

pub returns-in_err-smaller : goal.returns-in_err-smaller
unfolding bounds_in
returns-in_err-smaller c = rw c.in_ok-larger.ensures (gives-failed _ _ _ _ c.from_residual-in_err-smaller.ensures.1 c.in_err-smaller.ensures)

pub returns : goal.returns
unfolding bounds_in
returns c = rw (c.in_ok-larger.ensures, c.in_ok-smaller.ensures) refl
