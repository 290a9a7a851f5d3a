-- The lines of a judgement: texts and whole numbers, so their texts are the compact ones.
use Rattle.std.proofs.Common.{◌≡◌, ℕ, List, [], ◌∷◌, ◌++◌, ◌∙◌, ap, refl, false, Option, Some, None}
use Rattle.serde_json.specs.Data.{Data, null}
use Rattle.serde_json.specs.Written.{compact_text, has_float}
use Rattle.vaultctl_serve_lines_answers.specs.LawfulLine.{breach_text, breach_value, clean_text, judged_value}
use Rattle.vaultctl_serve_lines_answers.specs.PageLine.{next_value}
use Rattle.vaultctl_serve_lines_answers.specs.StatusLine.{ok_value}

next-whole : (next : Option ℕ) → has_float (next_value next) ≡ false
next-whole None = refl
next-whole (Some id) = refl

breach-whole : (id : ℕ) (law : List ℕ) (next : Option ℕ) → has_float (ok_value (judged_value (breach_value id law) next)) ≡ false
breach-whole id law next = rw (next-whole next) refl

clean-whole : (next : Option ℕ) → has_float (ok_value (judged_value null next)) ≡ false
clean-whole next = rw (next-whole next) refl

pub breach_text-is : (line printed law : List ℕ) (id : ℕ) (next : Option ℕ) (found inner value : Data) → line ≡ printed ++ 10 ∷ [] → (has_float value ≡ false → printed ≡ compact_text value) → value ≡ ok_value inner → inner ≡ judged_value found next → found ≡ breach_value id law → line ≡ breach_text id law next
unfolding breach_text
breach_text-is line printed law id next found inner value ended compact outer made is =
    let stated : value ≡ ok_value (judged_value (breach_value id law) next) = outer ∙ ap ok_value (made ∙ ap (λ d. judged_value d next) is) in
    ended ∙ ap (λ t. t ++ 10 ∷ []) (compact (ap has_float stated ∙ breach-whole id law next) ∙ ap compact_text stated)

pub clean_text-is : (line printed : List ℕ) (next : Option ℕ) (found inner value : Data) → line ≡ printed ++ 10 ∷ [] → (has_float value ≡ false → printed ≡ compact_text value) → value ≡ ok_value inner → inner ≡ judged_value found next → found ≡ null → line ≡ clean_text next
unfolding clean_text
clean_text-is line printed next found inner value ended compact outer made is =
    let stated : value ≡ ok_value (judged_value null next) = outer ∙ ap ok_value (made ∙ ap (λ d. judged_value d next) is) in
    ended ∙ ap (λ t. t ++ 10 ∷ []) (compact (ap has_float stated ∙ clean-whole next) ∙ ap compact_text stated)
