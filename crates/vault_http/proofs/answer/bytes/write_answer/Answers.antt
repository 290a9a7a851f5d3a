use Rattle.std.proofs.Common.{rules, refl}
use Rattle.vault_http.specs.Answer.{answer_bytes}
use Rattle.vault_http.proofs.answer.bytes.write_answer.Goals as goal

pub returns : goal.returns
unfolding answer_bytes
returns c = (c.date_of-date.result, search rules, rw (c.in_ok-push_body.ensures, c.in_ok-push_line-2.ensures, c.in_ok-push_hold.ensures, c.in_ok-push_retention.ensures, c.in_ok-push_version.ensures, c.in_ok-push_marker.ensures, c.in_ok-push_allow.ensures, c.in_ok-push_length.ensures, c.in_ok-push_type.ensures, c.in_ok-push_line.ensures, c.in_ok-push_date.ensures, c.in_ok-push_status.ensures, c.new-out.ensures.items) refl)
