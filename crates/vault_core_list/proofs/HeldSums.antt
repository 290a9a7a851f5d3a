-- Sums over those histories that pass, one by one.
use Rattle.std.proofs.Common.{◌≡◌, ℕ, ◌+◌, ◌≤◌, ◌<◌, List, length, filter, take, drop, get_or, Bool, true, false, ap, sym, ◌∙◌, arith}
use Rattle.std.specs.Prelude.{sum_by}
use Rattle.std.proofs.lemmas.List.{take-append-drop}
use Rattle.std.proofs.lemmas.List.Elements.{filter-append, filter_more}
use Rattle.std.proofs.lemmas.List.Sums.{sum_by-append, sum_by_push}
use Rattle.vault_core_model.specs.declared.records.History.{History}
use Rattle.vault_core_list.proofs.Heads.{other-more}

-- one more that passes
pub sum-more : (f : History → ℕ) (p : History → Bool) (hs : List History) (i : ℕ) (h : History) → i < length hs → h ≡ get_or hs i h → p h ≡ true → sum_by f (filter p (take (i + 1) hs)) ≡ sum_by f (filter p (take i hs)) + f h
sum-more f p hs i h lt is passes = rw (filter_more p hs i h lt, ← is, passes) (sum_by_push f (filter p (take i hs)) h)

-- one more of the others
pub sum-other : (f : History → ℕ) (p : History → Bool) (hs : List History) (i : ℕ) (h : History) → i < length hs → h ≡ get_or hs i h → p h ≡ false → sum_by f (filter p (take (i + 1) hs)) ≡ sum_by f (filter p (take i hs))
sum-other f p hs i h lt is other = ap (sum_by f) (other-more p hs i h lt is other)

-- the sum over the first ones is within that over all
sum-within : (f : History → ℕ) (p : History → Bool) (hs : List History) (n : ℕ) → sum_by f (filter p (take n hs)) ≤ sum_by f (filter p hs)
sum-within f p hs n =
    let parts : sum_by f (filter p hs) ≡ sum_by f (filter p (take n hs)) + sum_by f (filter p (drop n hs)) =
    ap (λ gs. sum_by f (filter p gs)) (sym (take-append-drop n hs)) ∙ ap (sum_by f) (filter-append p (take n hs) (drop n hs)) ∙ sum_by-append f (filter p (take n hs)) (filter p (drop n hs)) in
    omega arith

-- so the sum so far and one more that passes are within it
pub next-within : (f : History → ℕ) (p : History → Bool) (hs : List History) (i : ℕ) (h : History) → i < length hs → h ≡ get_or hs i h → p h ≡ true → sum_by f (filter p (take i hs)) + f h ≤ sum_by f (filter p hs)
next-within f p hs i h lt is passes =
    let more : sum_by f (filter p (take (i + 1) hs)) ≡ sum_by f (filter p (take i hs)) + f h = sum-more f p hs i h lt is passes in
    let within : sum_by f (filter p (take (i + 1) hs)) ≤ sum_by f (filter p hs) = sum-within f p hs (i + 1) in
    omega arith
