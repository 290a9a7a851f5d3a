use Rattle.std.proofs.Common.{[], rules, sym, append-nil, string_bytes}
use Rattle.httparse.specs.Spans.{IsRequestOf}
use Rattle.vaultctl_log.proofs.Shown.{head-shown, nothing-shown, on-ok}
use Rattle.vaultctl_log.proofs.asked.push_request.Goals as goal

-- the head that the parser found is shown
pub returns-in-Ok-Complete : goal.returns-in-Ok-Complete
returns-in-Ok-Complete c =
    let of : IsRequestOf c.args.bytes.now c.parse_request.new.headers c.in-Ok-Complete.spans = search rules in
    on-ok c.push_head.result (λ said. (_, head-shown c.args.is_understood c.args.bytes.now c.parse_request.new.headers c.in-Ok-Complete.spans of, said)) c.push_head.ensures

-- no head has come to its end
pub returns-in-Ok-Partial : goal.returns-in-Ok-Partial
returns-in-Ok-Partial c =
    ([], nothing-shown c.args.is_understood c.args.bytes.now (λ h rest reads few. rw (c.in-Ok-Partial.is, c.in-Ok-Partial.field-0-is) at (c.parse_request.ensures.found h rest reads few)), sym (append-nil (string_bytes c.args.out.now)))

-- there is none that has its room
pub returns-in-Err : goal.returns-in-Err
returns-in-Err c =
    ([], nothing-shown c.args.is_understood c.args.bytes.now (λ h rest reads few. c.in-Err.ensures.found h rest reads few), sym (append-nil (string_bytes c.args.out.now)))
