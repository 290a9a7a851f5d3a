use Rattle.std.proofs.Common.{◌≡◌, drop, map}
use Rattle.vault_http_target.specs.Query as spec
use Rattle.vault_http_target.proofs.query.are_among.Given as goal

abbrev pub invariant-loop-pair : goal.invariant-loop-pair
invariant-loop-pair l = spec.are_among (map (λ n. n.now) l.names) (map spec.shown (drop l.pair-index l.pairs)) ≡ spec.are_among (map (λ n. n.now) l.names) (map spec.shown l.pairs)
