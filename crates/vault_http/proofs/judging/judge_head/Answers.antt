use Rattle.std.proofs.Common.{rules, ◌≡◌, Bool, Ok, subst, sym}
use Rattle.httparse.specs.Spans.{span_bytes}
use Rattle.vault_http.specs.Exchange.{Said, is_shown, spans_asked}
use Rattle.vault_http.specs.Judging.{ComesTo}
use Rattle.vault_http.proofs.judging.judge_head.Goals as goal

pub returns-in-Ok-clause-comes : goal.returns-in-Ok-clause-comes
returns-in-Ok-clause-comes c =
    let said : spans_asked c.args.hosts.now c.args.moment c.args.buf.now c.args.headers.now c.args.spans ≡ Ok c.in-Ok.asked = rw c.in-Ok.is at c.spans_asked.ensures.value in
    let at = rw c.in-Ok.is at c.spans_asked.ensures.at in
    let shown : c.is_shown-shown.result ≡ is_shown (span_bytes c.args.buf.now c.args.spans.method) = search rules in
    subst (λ (s : Said). ComesTo c.args.moment (is_shown (span_bytes c.args.buf.now c.args.spans.method)) s c.judgement_of.result) (sym said)
    (subst (λ (t : Bool). ComesTo c.args.moment t (Ok c.in-Ok.asked) c.judgement_of.result) shown (c.judgement_of.ensures c.args.moment at))
