-- Ids that rise, by one walk.
use Rattle.std.proofs.Common.{◌≡◌, ℕ, ◌&&◌, Bool, true, false, nat_lt, List, [], ◌∷◌, refl, ap, ◌∙◌, arith}
use Rattle.std.specs.List.{list_all}
use Rattle.std.proofs.lemmas.Bool.Decides.{nat_tests}
use Rattle.vault_rules.specs.declared.plan.Held.{Held}
use Rattle.vault_rules.specs.KeyPlan.{ids_rise}

-- each id is above the one before it, and the first above n
abbrev pub rise_above : ℕ → List Held → Bool
rise_above n [] = true
rise_above n (x ∷ xs) = nat_lt n x.id && rise_above x.id xs

absorbed : (a d b c : Bool) → (a ≡ true → b ≡ true → d ≡ true) → ((a && d) && (b && c)) ≡ (a && (b && c))
absorbed false d b c h = refl
absorbed true true b c h = refl
absorbed true false true c h = let e : false ≡ true = h refl refl in absurd (cc)
absorbed true false false c h = refl

first_of : (a b : Bool) → (a && b) ≡ true → a ≡ true
first_of true b e = refl
first_of false b e = absurd (cc)

rest_of : (a b : Bool) → (a && b) ≡ true → b ≡ true
rest_of true b e = e
rest_of false b e = absurd (cc)

both_of : (a b : Bool) → a ≡ true → b ≡ true → (a && b) ≡ true
both_of a b e f = ap (λ c. c && b) e ∙ f

less_both : (m n k : ℕ) → nat_lt m n ≡ true → nat_lt n k ≡ true → nat_lt m k ≡ true
less_both m n k e f = grind (arith, nat_tests)

-- what is above n is above what is below n
all_above : (m n : ℕ) (xs : List Held) → nat_lt m n ≡ true → list_all (λ y. nat_lt n y.id) xs ≡ true → list_all (λ y. nat_lt m y.id) xs ≡ true
all_above m n [] e h = refl
all_above m n (x ∷ xs) e h =
    both_of (nat_lt m x.id) (list_all (λ y. nat_lt m y.id) xs)
    (less_both m n x.id e (first_of (nat_lt n x.id) (list_all (λ y. nat_lt n y.id) xs) h))
    (all_above m n xs e (rest_of (nat_lt n x.id) (list_all (λ y. nat_lt n y.id) xs) h))

rise-above : (n : ℕ) (xs : List Held) → (list_all (λ y. nat_lt n y.id) xs && ids_rise xs) ≡ rise_above n xs
rise-above n [] = refl
rise-above n (x ∷ xs) =
    absorbed (nat_lt n x.id) (list_all (λ y. nat_lt n y.id) xs) (list_all (λ y. nat_lt x.id y.id) xs) (ids_rise xs) (all_above n x.id xs)
    ∙ ap (λ b. nat_lt n x.id && b) (rise-above x.id xs)

pub ids_rise-above : (x : Held) (xs : List Held) → ids_rise (x ∷ xs) ≡ rise_above x.id xs
ids_rise-above x xs = rise-above x.id xs
