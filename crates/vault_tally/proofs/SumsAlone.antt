-- Rows of sums and their bounds go by sums alone, in whatever order the tenures come.
use Rattle.std.proofs.Common.{◌≡◌, ℕ, ◌≤◌, List, [], ◌∷◌, Bool, true, false, true≢false, IsTrue, refl, sym, ap, subst, ◌∙◌, arith}
use Rattle.std.specs.Prelude.{sum_by, ◌&&◌, if◌then◌else◌}
use Rattle.std.specs.List.{list_all}
use Rattle.std.proofs.lemmas.Bool.{and_parts}
use Rattle.std.proofs.lemmas.List.Sums.{sum_by-cons}
use Rattle.vault_tally.specs.Row.{Item, IsRowOf, AreBounded, size_of, weight, admitted_size, received_size, held_size, removed_size, handed_size, closed_byte_days, is_dated, quota}
use Rattle.vault_tally.specs.declared.row.Row.{Row}

-- a row
pub row_same : (row : Row) (xs ys : List Item) → ((f : Item → ℕ) → sum_by f xs ≡ sum_by f ys) → IsRowOf row xs → IsRowOf row ys
row_same row xs ys same is = record {
  admitted = is.admitted ∙ same admitted_size;
  received = is.received ∙ same received_size;
  held = is.held ∙ same held_size;
  removed = is.removed ∙ same removed_size;
  handed = is.handed ∙ same handed_size;
  weighted = is.weighted ∙ same weight;
  closed = is.closed ∙ same closed_byte_days;
}

-- ---- a test that each passes

-- 1 where a test fails
abbrev pub one_unless : Bool → ℕ
one_unless b = if b then 0 else 1

abbrev pub fails : (Item → Bool) → Item → ℕ
fails p i = one_unless (p i)

-- where each passes, none fails
none_fails : (p : Item → Bool) (xs : List Item) → IsTrue (list_all p xs) → sum_by (fails p) xs ≡ 0
none_fails p [] all = refl
none_fails p (x ∷ xs) all =
    let both = and_parts (p x) (list_all p xs) all in
    let here : fails p x ≡ 0 = ap one_unless both.0 in
    omega (arith, sum_by-cons (fails p) x xs, here, none_fails p xs both.1)

both_pass : (a b : Bool) → a ≡ true → b ≡ true → (a && b) ≡ true
both_pass true true e f = refl
both_pass true false e f = absurd (true≢false (sym f))
both_pass false b e f = absurd (true≢false (sym e))

-- and the other way round
pub all_pass : (p : Item → Bool) (xs : List Item) → sum_by (fails p) xs ≡ 0 → IsTrue (list_all p xs)
all_pass p [] none = refl
all_pass p (x ∷ xs) none = both_pass (p x) (list_all p xs) (passes (p x) (omega (arith, sum_by-cons (fails p) x xs, none))) (all_pass p xs (omega (arith, sum_by-cons (fails p) x xs, none)))
  where
    passes : (b : Bool) → one_unless b ≡ 0 → b ≡ true
    passes true e = refl
    passes false e = absurd (cc e)

-- ---- bounds

pub bounded_same : (xs ys : List Item) → ((f : Item → ℕ) → sum_by f xs ≡ sum_by f ys) → AreBounded xs → AreBounded ys
bounded_same xs ys same b = record {
  dated = all_pass is_dated ys (sym (same (fails is_dated)) ∙ none_fails is_dated xs b.dated);
  within = subst (λ n. n ≤ quota) (same size_of) b.within;
}
