-- A sum over the departments is one over the versions: each tenure is of one department.
use Rattle.std.proofs.Common.{◌≡◌, ℕ, ◌+◌, List, [], ◌∷◌, Bool, true, false, true≢false, IsTrue, refl, sym, ap, subst, ◌∙◌, arith}
use Rattle.std.specs.Prelude.{sum_by, if◌then◌else◌, ◌||◌}
use Rattle.std.specs.List.{AllByRecursion, list_any}
use Rattle.std.specs.Str.{bytes_eq}
use Rattle.std.specs.Ordering.{is_eq}
use Rattle.std.specs.declared.cmp.Ordering.TheVariants.{Less}
use Rattle.std.proofs.lemmas.Map.Text.{is_eq-slice_cmp}
use Rattle.std.proofs.lemmas.Slice.Eq.{bytes_eq-Decides}
use Rattle.std.proofs.lemmas.List.Sums.{sum_by-cons, sum_by-append}
use Rattle.vault_tally.specs.Row.{Item}
use Rattle.vault_core_model.specs.declared.records.History.{History}
use Rattle.vault_core_model.specs.Order.{IsAscending, name_cmp}
use Rattle.vault_core_model.specs.Totals.{Share, items_by, items_in, shares_of}
use Rattle.vault_core_laws.proofs.Items.{by-cons, counted}

-- ---- one share, over the departments

after_it : (x : List ℕ) (n : ℕ) (ds : List (List ℕ)) → AllByRecursion (λ y. name_cmp x y ≡ Less) ds → sum_by (λ d. if bytes_eq x d then n else 0) ds ≡ 0
after_it x n [] all = refl
after_it x n (d ∷ ds) all =
    let other : bytes_eq x d ≡ false = sym (is_eq-slice_cmp x d) ∙ ap is_eq all.0 in
    let here : (if bytes_eq x d then n else 0) ≡ 0 = ap (λ (b : Bool). if b then n else 0) other in
    omega (arith, sum_by-cons (λ (y : List ℕ). if bytes_eq x y then n else 0) d ds, here, after_it x n ds all.1)

one_of : (x : List ℕ) (n : ℕ) (ds : List (List ℕ)) → IsAscending name_cmp ds → IsTrue (list_any (λ d. bytes_eq d x) ds) → sum_by (λ d. if bytes_eq x d then n else 0) ds ≡ n
one_of x n [] up there = absurd (true≢false (sym there))
one_of x n (d ∷ ds) up there = go (bytes_eq d x) refl (λ later. one_of x n ds up.1 later)
  where
    go : (b : Bool) → bytes_eq d x ≡ b → (IsTrue (list_any (λ y. bytes_eq y x) ds) → sum_by (λ y. if bytes_eq x y then n else 0) ds ≡ n) → sum_by (λ y. if bytes_eq x y then n else 0) (d ∷ ds) ≡ n
    go true same more =
        let is : d ≡ x = (bytes_eq-Decides d x).0 same in
        let rest = after_it x n ds (subst (λ y. AllByRecursion (λ z. name_cmp y z ≡ Less) ds) is up.0) in
        let own : bytes_eq x d ≡ true = (bytes_eq-Decides x d).1 (sym is) in
        let here : (if bytes_eq x d then n else 0) ≡ n = ap (λ (b : Bool). if b then n else 0) own in
        omega (arith, sum_by-cons (λ (y : List ℕ). if bytes_eq x y then n else 0) d ds, here, rest)
    go false other more =
        let apart : bytes_eq x d ≡ false = differ (bytes_eq x d) refl in
        let here : (if bytes_eq x d then n else 0) ≡ 0 = ap (λ (b : Bool). if b then n else 0) apart in
        let rest = more (subst (λ (b : Bool). IsTrue (b || list_any (λ y. bytes_eq y x) ds)) other there) in
        omega (arith, sum_by-cons (λ (y : List ℕ). if bytes_eq x y then n else 0) d ds, here, rest)
      where
        differ : (b : Bool) → bytes_eq x d ≡ b → b ≡ false
        differ false e = refl
        differ true e = absurd (true≢false (sym ((bytes_eq-Decides d x).1 (sym ((bytes_eq-Decides x d).0 e))) ∙ other))

-- ---- all of them

zeros : (ds : List (List ℕ)) → sum_by (λ (d : List ℕ). 0) ds ≡ 0
zeros [] = refl
zeros (d ∷ ds) = omega (arith, sum_by-cons (λ (y : List ℕ). 0) d ds, zeros ds)

pub both_sums : {X : Type 0} (f g h : X → ℕ) → ((x : X) → f x ≡ g x + h x) → (xs : List X) → sum_by f xs ≡ sum_by g xs + sum_by h xs
both_sums f g h same [] = refl
both_sums f g h same (x ∷ xs) = omega (arith, sum_by-cons f x xs, sum_by-cons g x xs, sum_by-cons h x xs, same x, both_sums f g h same xs)

-- the department of each of these tenures is there
abbrev pub AreThere : List (List ℕ) → List Share → Type 0
AreThere ds ss = AllByRecursion (λ s. IsTrue (list_any (λ d. bytes_eq d s.dept) ds)) ss

by_departments : (f : Item → ℕ) (ds : List (List ℕ)) (ss : List Share) → IsAscending name_cmp ds → AreThere ds ss → sum_by (λ d. sum_by f (items_by d ss)) ds ≡ sum_by (λ s. f s.item) ss
by_departments f ds [] up there = zeros ds
by_departments f ds (s ∷ ss) up there = omega (
  arith,
  both_sums (λ d. sum_by f (items_by d (s ∷ ss))) (counted f s) (λ d. sum_by f (items_by d ss)) (λ d. by-cons f d s ss) ds,
  one_of s.dept (f s.item) ds up there.0,
  by_departments f ds ss up there.1,
  sum_by-cons (λ (x : Share). f x.item) s ss,
)

pub over_is : (f : Item → ℕ) (ds : List (List ℕ)) (hs : List History) → IsAscending name_cmp ds → AllByRecursion (λ h. AreThere ds (shares_of h)) hs
    → sum_by (λ d. sum_by f (items_in d hs)) ds ≡ sum_by (λ h. sum_by (λ s. f s.item) (shares_of h)) hs
over_is f ds [] up there = zeros ds
over_is f ds (h ∷ hs) up there = omega (
  arith,
  both_sums (λ d. sum_by f (items_in d (h ∷ hs))) (λ d. sum_by f (items_by d (shares_of h))) (λ d. sum_by f (items_in d hs)) (λ d. sum_by-append f (items_by d (shares_of h)) (items_in d hs)) ds,
  by_departments f ds (shares_of h) up there.0,
  over_is f ds hs up there.1,
  sum_by-cons (λ (g : History). sum_by (λ (s : Share). f s.item) (shares_of g)) h hs,
)
