use Rattle.std.proofs.Common.{rules, ◌≡◌, ◌∙◌, sym, drop, true, false, nat_eq}
use Rattle.std.specs.List.{starts_with}
use Rattle.vault_http_request.proofs.Contains.{contains_here, contains_next}
use Rattle.vault_http_request.proofs.supported.contains.Goals as goal

pub loop-i-preserved : goal.loop-i-preserved
loop-i-preserved c =
    let here : starts_with nat_eq (drop c.loop-i.i c.args.text.now) c.args.part.now ≡ false = search rules in
    contains_next c.args.part.now c.args.text.now c.loop-i.i (search rules) here ∙ c.loop-i.invariant

pub returns-then-starts_with : goal.returns-then-starts_with
returns-then-starts_with c =
    let here : starts_with nat_eq (drop c.loop-i.i c.args.text.now) c.args.part.now ≡ true = search rules in
    sym (contains_here c.args.part.now c.args.text.now c.loop-i.i (search rules) here) ∙ c.loop-i.invariant
