use Rattle.std.proofs.Common.{◌≡◌, map, drop}
use Rattle.std.specs.List.{list_any}
use Rattle.httparse.specs.Spans.{header_bytes}
use Rattle.vault_http_request.specs.Supported as spec
use Rattle.vault_http_request.proofs.supported.has_streamed.Given as goal

abbrev pub invariant-loop-header : goal.invariant-loop-header
invariant-loop-header l =
    list_any spec.is_streamed (map (header_bytes l.buf) (drop l.header-index l.headers)) ≡ list_any spec.is_streamed (map (header_bytes l.buf) l.headers)
