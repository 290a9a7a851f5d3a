use Rattle.std.proofs.Common.{◌≡◌, map, take}
use Rattle.serde_json.specs.View.{view}
use Rattle.vaultctl_serve_lines_answers.specs.BucketsLine.{name_value}
use Rattle.vaultctl_serve_lines_answers.proofs.buckets_line.name_values.Given as goal

-- the names so far
abbrev pub invariant-loop-name : goal.invariant-loop-name
invariant-loop-name l = map view l.list.items ≡ map name_value (take l.name-index l.names)
