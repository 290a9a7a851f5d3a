use Rattle.std.proofs.Common.{◌≡◌, drop}
use Rattle.vault_http_request.specs.Supported as spec
use Rattle.vault_http_request.proofs.supported.contains.Given as goal

abbrev pub invariant-loop-i : goal.invariant-loop-i
invariant-loop-i l = spec.contains l.part (drop l.i l.text) ≡ spec.contains l.part l.text
