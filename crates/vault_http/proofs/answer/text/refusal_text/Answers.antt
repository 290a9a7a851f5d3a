use Rattle.std.proofs.Common.{◌≡◌, ◌∙◌, ◌++◌, ◌∷◌, [], refl, codes}
use Rattle.std.proofs.lemmas.Result.{IfOk-weaker}
use Rattle.vault_http.specs.Reply.{refusal_text}
use Rattle.vault_http.proofs.TextLemmas.{refused_line, has_room, value_within}
use Rattle.vault_http.proofs.answer.text.refusal_text.Goals as goal

pub within-requires : goal.within-requires
within-requires c =
    let line : c.as_bytes.result.now ≡ codes "{\"error\":" ++ (refusal_text c.args.refusal ++ 125 ∷ 10 ∷ []) = c.as_bytes.ensures.value ∙ (c.in_ok-line.ensures ∙ refused_line c.args.refusal) in
    has_room 9 (codes "{\"error\":") (refusal_text c.args.refusal) c.as_bytes.result.now refl line

pub returns : goal.returns
returns c =
    let line : c.as_bytes.result.now ≡ codes "{\"error\":" ++ (refusal_text c.args.refusal ++ 125 ∷ 10 ∷ []) = c.as_bytes.ensures.value ∙ (c.in_ok-line.ensures ∙ refused_line c.args.refusal) in
    IfOk-weaker c.from_slice.result _ _ (λ v e. e ∙ (c.within.ensures ∙ value_within 9 (codes "{\"error\":") (refusal_text c.args.refusal) c.as_bytes.result.now refl line)) c.from_slice.ensures.items
