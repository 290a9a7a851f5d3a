use Rattle.std.proofs.Common.{◌≡◌, drop, map}
use Rattle.vault_http_target.specs.Query as spec
use Rattle.vault_http_target.proofs.query.value_named.Given as goal

abbrev pub invariant-loop-pair : goal.invariant-loop-pair
invariant-loop-pair l = spec.value_named l.name (map spec.shown (drop l.pair-index l.pairs)) ≡ spec.value_named l.name (map spec.shown l.pairs)
