-- Keys before a prefix don't begin with it, nor do keys after one that is past it.
use Rattle.std.proofs.Common.{◌≡◌, ◌⊎◌, inl, inr, ℕ, ◌<◌, ◌&&◌, Bool, true, false, List, [], ◌∷◌, refl, sym, ap, ◌∙◌, arith, cond}
use Rattle.std.specs.Prelude.{nat_eq, nat_lt, ◌==◌}
use Rattle.std.specs.List.{starts_with}
use Rattle.std.specs.Ordering.{nat_cmp, ordering_then}
use Rattle.std.specs.declared.cmp.Ordering.{Ordering}
use Rattle.std.specs.declared.cmp.Ordering.TheVariants.{Less, Equal, Greater}
use Rattle.std.proofs.lemmas.Bool.Decides.{nat_tests}
use Rattle.std.proofs.lemmas.Map.Lookups.{exact_unsigned}
use Rattle.std.proofs.lemmas.Bool.{and_right}
use Rattle.vault_core_listing.proofs.Keys.{cmp}

abbrev begins : List ℕ → List ℕ → Bool
begins key prefix = starts_with nat_eq key prefix

gt_lt : (m n : ℕ) → nat_cmp m n ≡ Greater → n < m
gt_lt m n e = by_tests (nat_lt m n) (m == n) refl refl e
  where
    by_tests : (b c : Bool) → nat_lt m n ≡ b → (m == n) ≡ c → cond b Less (cond c Equal Greater) ≡ Greater → n < m
    by_tests true c f g h = absurd (cc h)
    by_tests false true f g h = absurd (cc h)
    by_tests false false f g h = grind (arith, nat_tests)

lt_gt : (m n : ℕ) → nat_cmp m n ≡ Less → m < n
lt_gt m n e = by_tests (nat_lt m n) (m == n) refl refl e
  where
    by_tests : (b c : Bool) → nat_lt m n ≡ b → (m == n) ≡ c → cond b Less (cond c Equal Greater) ≡ Less → m < n
    by_tests true c f g h = grind (arith, nat_tests)
    by_tests false true f g h = absurd (cc h)
    by_tests false false f g h = absurd (cc h)

-- what comes later is greater at the first number, or equal there and later in the rest
later : (m n : ℕ) (o r : Ordering) → nat_cmp m n ≡ o → ordering_then o r ≡ Greater → (n < m) ⊎ ((m ≡ n) × (r ≡ Greater))
later m n Less r e f = absurd (cc f)
later m n Equal r e f = inr (exact_unsigned m n e, f)
later m n Greater r e f = inl (gt_lt m n e)

differs : (m n : ℕ) (b : Bool) → m < n → (nat_eq m n && b) ≡ false
differs m n b lt = let e : nat_eq m n ≡ false = grind (arith, nat_tests) in ap (λ c. c && b) e

apart : (m n : ℕ) (b : Bool) → n < m → (nat_eq m n && b) ≡ false
apart m n b lt = let e : nat_eq m n ≡ false = grind (arith, nat_tests) in ap (λ c. c && b) e

same_first : (m n : ℕ) → n ≡ m → nat_eq m n ≡ true
same_first m n e = grind (arith, nat_tests)

pub past : (prefix last key : List ℕ) → cmp last prefix ≡ Greater → begins last prefix ≡ false → cmp key last ≡ Greater → begins key prefix ≡ false
past [] last key over other after = absurd (cc other)
past (x ∷ p) [] key over other after = absurd (cc over)
past (x ∷ p) (y ∷ l) [] over other after = absurd (cc after)
past (x ∷ p) (y ∷ l) (z ∷ k) over other after =
    by_first (later y x (nat_cmp y x) (cmp l p) refl over) (later z y (nat_cmp z y) (cmp k l) refl after) (past p l k)
  where
    rest_other : y ≡ x → (nat_eq x y && begins l p) ≡ false → begins l p ≡ false
    rest_other e f = sym (ap (λ b. b && begins l p) (same_first x y e)) ∙ f

    by_first : ((x < y) ⊎ ((y ≡ x) × (cmp l p ≡ Greater))) → ((y < z) ⊎ ((z ≡ y) × (cmp k l ≡ Greater))) → (cmp l p ≡ Greater → begins l p ≡ false → cmp k l ≡ Greater → begins k p ≡ false) → (nat_eq x z && begins k p) ≡ false
    by_first (inl a) (inl b) rest = differs x z (begins k p) (omega arith)
    by_first (inl a) (inr b) rest = differs x z (begins k p) (omega (arith, b.0))
    by_first (inr a) (inl b) rest = differs x z (begins k p) (omega (arith, a.0))
    by_first (inr a) (inr b) rest = and_right (nat_eq x z) (begins k p) (rest a.1 (rest_other a.0 other) b.1)

-- what comes before is less at the first number, or equal there and before in the rest
earlier : (m n : ℕ) (o r : Ordering) → nat_cmp m n ≡ o → ordering_then o r ≡ Less → (m < n) ⊎ ((m ≡ n) × (r ≡ Less))
earlier m n Less r e f = inl (lt_gt m n e)
earlier m n Equal r e f = inr (exact_unsigned m n e, f)
earlier m n Greater r e f = absurd (cc f)

pub before : (prefix key : List ℕ) → cmp key prefix ≡ Less → begins key prefix ≡ false
before [] [] under = absurd (cc under)
before [] (z ∷ k) under = absurd (cc under)
before (x ∷ p) [] under = refl
before (x ∷ p) (z ∷ k) under = by_first (earlier z x (nat_cmp z x) (cmp k p) refl under) (before p k)
  where
    by_first : ((z < x) ⊎ ((z ≡ x) × (cmp k p ≡ Less))) → (cmp k p ≡ Less → begins k p ≡ false) → (nat_eq x z && begins k p) ≡ false
    by_first (inl a) rest = apart x z (begins k p) a
    by_first (inr a) rest = and_right (nat_eq x z) (begins k p) (rest a.1)
