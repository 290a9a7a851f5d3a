use Rattle.std.proofs.Common.{◌≡◌, ◌++◌, map}
use Rattle.form_urlencoded.specs.Parse.{pairs_left}
use Rattle.vault_http_target.specs.Query as spec
use Rattle.vault_http_target.proofs.query.pairs_of.Given as goal

abbrev pub invariant-loop-item : goal.invariant-loop-item
invariant-loop-item l =
    map spec.shown l.pairs.items ++ map spec.read_pair (pairs_left l.item-iterator) ≡ spec.pairs_of l.query
