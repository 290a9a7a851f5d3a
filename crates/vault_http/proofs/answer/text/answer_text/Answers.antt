use Rattle.std.proofs.Common.{◌≡◌, ◌∙◌, ◌++◌, ◌∷◌, [], refl, codes}
use Rattle.std.proofs.lemmas.Result.{IfOk-weaker}
use Rattle.vault_http.specs.Reply.{answer_text}
use Rattle.vault_http.proofs.TextLemmas.{done_line, has_room, value_within}
use Rattle.vault_http.proofs.answer.text.answer_text.Goals as goal

pub within-requires : goal.within-requires
within-requires c =
    let line : c.as_bytes.result.now ≡ codes "{\"ok\":" ++ (answer_text c.args.answer ++ 125 ∷ 10 ∷ []) = c.as_bytes.ensures.value ∙ (c.in_ok-line.ensures ∙ done_line c.args.answer) in
    has_room 6 (codes "{\"ok\":") (answer_text c.args.answer) c.as_bytes.result.now refl line

pub returns : goal.returns
returns c =
    let line : c.as_bytes.result.now ≡ codes "{\"ok\":" ++ (answer_text c.args.answer ++ 125 ∷ 10 ∷ []) = c.as_bytes.ensures.value ∙ (c.in_ok-line.ensures ∙ done_line c.args.answer) in
    IfOk-weaker c.from_slice.result _ _ (λ v e. e ∙ (c.within.ensures ∙ value_within 6 (codes "{\"ok\":") (answer_text c.args.answer) c.as_bytes.result.now refl line)) c.from_slice.ensures.items
