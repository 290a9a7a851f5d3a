-- The line of a part: a text and a whole number, so its text is the compact one.
use Rattle.std.proofs.Common.{◌≡◌, ℕ, List, [], ◌∷◌, ◌++◌, ◌∙◌, ap, refl, false, Option, Some, None}
use Rattle.serde_json.specs.Data.{Data}
use Rattle.serde_json.specs.Written.{compact_text, has_float}
use Rattle.vaultctl_serve_lines_answers.specs.PageLine.{next_value, page_line_text, page_value}
use Rattle.vaultctl_serve_lines_answers.specs.StatusLine.{ok_value}

next-whole : (next : Option ℕ) → has_float (next_value next) ≡ false
next-whole None = refl
next-whole (Some id) = refl

page-whole : (text : List ℕ) (next : Option ℕ) → has_float (ok_value (page_value text next)) ≡ false
page-whole text next = rw (next-whole next) refl

pub page_line_text-is : (line printed text : List ℕ) (next : Option ℕ) (inner value : Data) → line ≡ printed ++ 10 ∷ [] → (has_float value ≡ false → printed ≡ compact_text value) → value ≡ ok_value inner → inner ≡ page_value text next → line ≡ page_line_text text next
unfolding page_line_text
page_line_text-is line printed text next inner value ended compact outer made =
    let stated : value ≡ ok_value (page_value text next) = outer ∙ ap ok_value made in
    ended ∙ ap (λ t. t ++ 10 ∷ []) (compact (ap has_float stated ∙ page-whole text next) ∙ ap compact_text stated)
