use Rattle.std.proofs.Common.{◌≡◌, ◌≤◌, ◌+◌, ◌*◌, drop}
use Rattle.std.specs.Str.Parse.{digits_value, digits_value_after}
use Rattle.vault_http_target.proofs.number.value_upto.Given as goal

abbrev pub invariant-loop-b : goal.invariant-loop-b
invariant-loop-b l = record {
  small : l.total ≤ l.most * 10 + 9;
  value : digits_value_after 10 l.total (drop l.b-index l.text) ≡ digits_value 10 l.text;
}
