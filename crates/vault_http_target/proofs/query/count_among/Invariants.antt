use Rattle.std.proofs.Common.{◌≡◌, ◌≤◌, ◌+◌, drop, map}
use Rattle.vault_http_target.specs.Query as spec
use Rattle.vault_http_target.proofs.query.count_among.Given as goal

abbrev pub invariant-loop-pair : goal.invariant-loop-pair
invariant-loop-pair l = record {
  few : l.count ≤ l.pair-index;
  sum : l.count + spec.count_among (map (λ n. n.now) l.names) (map spec.shown (drop l.pair-index l.pairs)) ≡ spec.count_among (map (λ n. n.now) l.names) (map spec.shown l.pairs);
}
