use Rattle.std.proofs.Common.{◌≤◌, [], length, arith}
use Rattle.vault_core_runs.proofs.OverRanges.{IsLastKey-of}
use Rattle.vault_core_runs.proofs.pages.last_seen.Goals as goal

pub returns : goal.returns
returns c =
    let some : 1 ≤ length c.args.keys.now = omega (arith, c.if-keys.false) in
    let item = c.in-Some.ensures.item in
    IsLastKey-of c.args.keys.now c.in-Some.last.now c.in_ok-to_prefix.field-0 some (item.3.1 []) c.in_ok-to_prefix.ensures.value c.to_prefix.ensures.named
