-- The line of a status: whole numbers alone, so its text is the compact one.
use Rattle.std.proofs.Common.{◌≡◌, ℕ, List, [], ◌∷◌, ◌++◌, ◌∙◌, ap, refl, false, Option, Some, None}
use Rattle.serde_json.specs.Data.{Data}
use Rattle.serde_json.specs.Written.{compact_text, has_float}
use Rattle.vaultctl_serve_lines_answers.specs.StatusLine.{ok_value, since_value, status_text, status_value}
use Rattle.vaultctl_serve_lines_answers.specs.declared.status_line.Status.{Status}

since-whole : (since : Option ℕ) → has_float (since_value since) ≡ false
since-whole None = refl
since-whole (Some moment) = refl

status-whole : (version : List ℕ) (s : Status) → has_float (ok_value (status_value version s)) ≡ false
status-whole version s = rw (since-whole s.since) refl

pub status_text-is : (line text version : List ℕ) (inner value : Data) (s : Status) → line ≡ text ++ 10 ∷ [] → (has_float value ≡ false → text ≡ compact_text value) → value ≡ ok_value inner → inner ≡ status_value version s → line ≡ status_text version s
unfolding status_text
status_text-is line text version inner value s ended printed outer made =
    let stated : value ≡ ok_value (status_value version s) = outer ∙ ap ok_value made in
    ended ∙ ap (λ t. t ++ 10 ∷ []) (printed (ap has_float stated ∙ status-whole version s) ∙ ap compact_text stated)
