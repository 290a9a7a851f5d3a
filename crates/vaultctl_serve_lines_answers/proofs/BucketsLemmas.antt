-- The line of names of buckets: it has no number, so its text is the compact one.
use Rattle.std.proofs.Common.{◌≡◌, ℕ, List, [], ◌∷◌, ◌++◌, ◌∙◌, ap, refl, map, false}
use Rattle.serde_json.specs.Data.{Data}
use Rattle.serde_json.specs.View.{items_of}
use Rattle.serde_json.specs.Written.{compact_text, has_float, items_have_float}
use Rattle.vaultctl_serve_lines_answers.specs.BucketsLine.{buckets_text, name_value, page_value}
use Rattle.vaultctl_serve_lines_answers.specs.StatusLine.{ok_value}
use Rattle.vaultctl_serve_lines_answers.specs.declared.buckets_line.BucketsPage.{BucketsPage}

names-whole : (names : List (List ℕ)) → items_have_float (items_of (map name_value names)) ≡ false
names-whole [] = refl
names-whole (n ∷ ns) = names-whole ns

page-whole : (p : BucketsPage) → has_float (ok_value (page_value p)) ≡ false
page-whole p = rw (names-whole p.names) refl

pub buckets_text-is : (line text : List ℕ) (p : BucketsPage) (inner value : Data) → line ≡ text ++ 10 ∷ [] → (has_float value ≡ false → text ≡ compact_text value) → value ≡ ok_value inner → inner ≡ page_value p → line ≡ buckets_text p
unfolding buckets_text
buckets_text-is line text p inner value ended printed outer made =
    let stated : value ≡ ok_value (page_value p) = outer ∙ ap ok_value made in
    ended ∙ ap (λ t. t ++ 10 ∷ []) (printed (ap has_float stated ∙ page-whole p) ∙ ap compact_text stated)
