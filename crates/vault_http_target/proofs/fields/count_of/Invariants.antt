use Rattle.std.proofs.Common.{◌≡◌, ◌+◌, ◌≤◌, map, drop}
use Rattle.httparse.specs.Spans.{header_bytes}
use Rattle.vault_http_target.specs.Fields as spec
use Rattle.vault_http_target.proofs.fields.count_of.Given as goal

abbrev pub invariant-loop-header : goal.invariant-loop-header
invariant-loop-header l = record {
  few : l.count ≤ l.header-index;
  sum : l.count + spec.count_of l.name (map (header_bytes l.buf) (drop l.header-index l.headers)) ≡ spec.count_of l.name (map (header_bytes l.buf) l.headers);
}
