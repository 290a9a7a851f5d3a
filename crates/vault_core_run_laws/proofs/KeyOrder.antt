-- The order of keys: what rises, what is among keys, and what is away from them.
use Rattle.std.proofs.Common.{◌≡◌, ◌⊎◌, ℕ, ◌++◌, Bool, true, false, List, [], ◌∷◌, refl, sym, ap, subst, ◌∙◌, ⊎_elim, inl, inr}
use Rattle.std.specs.Prelude.{flat_map}
use Rattle.std.specs.Ordering.{nat_cmp, is_eq, ordering_reverse}
use Rattle.std.specs.declared.cmp.Ordering.TheVariants.{Less, Equal, Greater}
use Rattle.std.specs.Cmp.Lexicographic.{slice_cmp, nat_list_cmp_total}
use Rattle.std.specs.FinMap.{slice_cmp-IsAntisymmetric, nat_cmp-IsAntisymmetric}
use Rattle.std.specs.Str.{bytes_eq}
use Rattle.std.proofs.lemmas.Map.Text.{is_eq-slice_cmp}
use Rattle.std.proofs.lemmas.Slice.Eq.{bytes_eq-Decides}
use Rattle.vault_rules.specs.KeyPlan.{Planned}
use Rattle.vault_core_run_laws.specs.KeyOrder.{IsIn, IsUnder, IsRising}

pub bytes_same : (k : List ℕ) → bytes_eq k k ≡ true
bytes_same k = (bytes_eq-Decides k k).1 refl

pub irreflexive : (k : List ℕ) → slice_cmp nat_cmp k k ≡ Less → ⊥
irreflexive k e = clash (sym (ap is_eq e) ∙ (is_eq-slice_cmp k k ∙ bytes_same k))
  where
    clash : false ≡ true → ⊥
    clash f = cc

pub under_in : (k x : List ℕ) (ks : List (List ℕ)) → IsUnder k ks → IsIn x ks → slice_cmp nat_cmp k x ≡ Less
under_in k x [] u i = absurd i
under_in k x (j ∷ js) u i = ⊎_elim (λ (e : x ≡ j). ap (slice_cmp nat_cmp k) e ∙ u.0) (λ (r : IsIn x js). under_in k x js u.1 r) i

-- a key below the first of a rising list isn't in it
pub below_out : (k j : List ℕ) (js : List (List ℕ)) → slice_cmp nat_cmp k j ≡ Less → IsUnder j js → IsIn k (j ∷ js) → ⊥
below_out k j js l u i =
    ⊎_elim (λ (e : k ≡ j). irreflexive k (ap (slice_cmp nat_cmp k) e ∙ l))
    (λ (r : IsIn k js). irreflexive k (nat_list_cmp_total.trans k j k l (under_in j k js u r))) i

pub is_in_or_out : (k : List ℕ) (js : List (List ℕ)) → IsIn k js ⊎ (IsIn k js → ⊥)
is_in_or_out k [] = inr (λ i. i)
is_in_or_out k (j ∷ js) = cases (bytes_eq k j) refl (is_in_or_out k js)
  where
    cases : (c : Bool) → bytes_eq k j ≡ c → IsIn k js ⊎ (IsIn k js → ⊥) → IsIn k (j ∷ js) ⊎ (IsIn k (j ∷ js) → ⊥)
    cases true e ih = inl (inl ((bytes_eq-Decides k j).0 e))
    cases false e ih = ⊎_elim (λ (r : IsIn k js). inl (inr r)) (λ (n : IsIn k js → ⊥). inr (λ i. ⊎_elim (λ (s : k ≡ j). clash (sym e ∙ (bytes_eq-Decides k j).1 s)) n i)) ih
      where
        clash : false ≡ true → ⊥
        clash f = cc

pub same_key : (j k : List ℕ) → slice_cmp nat_cmp j k ≡ Equal → j ≡ k
same_key j k e = slice_cmp-IsAntisymmetric nat_cmp-IsAntisymmetric j k e

pub turn : (j k : List ℕ) → slice_cmp nat_cmp k j ≡ Greater → slice_cmp nat_cmp j k ≡ Less
turn j k e = nat_list_cmp_total.antisymm j k ∙ ap ordering_reverse e

pub turn_back : (j k : List ℕ) → slice_cmp nat_cmp k j ≡ Less → slice_cmp nat_cmp j k ≡ Greater
turn_back j k e = nat_list_cmp_total.antisymm j k ∙ ap ordering_reverse e

-- k comes before each of these
pub under_each : (k : List ℕ) (ks : List (List ℕ)) → ((x : List ℕ) → IsIn x ks → slice_cmp nat_cmp k x ≡ Less) → IsUnder k ks
under_each k [] each = tt
under_each k (j ∷ js) each = (each j (inl refl), under_each k js (λ x i. each x (inr i)))

-- keys that rise are known by what is among them
pub one_list : (ks js : List (List ℕ)) → IsRising ks → IsRising js → ((x : List ℕ) → IsIn x ks → IsIn x js) → ((x : List ℕ) → IsIn x js → IsIn x ks) → ks ≡ js
one_list [] [] rk rj f g = refl
one_list [] (j ∷ js) rk rj f g = absurd (g j (inl refl))
one_list (k ∷ ks) [] rk rj f g = absurd (f k (inl refl))
one_list (k ∷ ks) (j ∷ js) rk rj f g =
    ap (λ x. x ∷ ks) same ∙ ap (λ l. j ∷ l) (one_list ks js rk.1 rj.1 (λ x i. onward x i (f x (inr i))) (λ x i. back x i (g x (inr i))))
  where
    same : k ≡ j
    same =
        ⊎_elim (λ (e : k ≡ j). e)
        (λ (i : IsIn k js).
        ⊎_elim (λ (e : j ≡ k). sym e)
        (λ (h : IsIn j ks). absurd (irreflexive k (nat_list_cmp_total.trans k j k (under_in k j ks rk.0 h) (under_in j k js rj.0 i))))
        (g j (inl refl)))
        (f k (inl refl))

    onward : (x : List ℕ) → IsIn x ks → IsIn x (j ∷ js) → IsIn x js
    onward x i = ⊎_elim (λ (e : x ≡ j). absurd (irreflexive k (under_in k k ks rk.0 (subst (λ y. IsIn y ks) (e ∙ sym same) i)))) (λ (h : IsIn x js). h)

    back : (x : List ℕ) → IsIn x js → IsIn x (k ∷ ks) → IsIn x ks
    back x i = ⊎_elim (λ (e : x ≡ k). absurd (irreflexive j (under_in j j js rj.0 (subst (λ y. IsIn y js) (e ∙ same) i)))) (λ (h : IsIn x ks). h)

-- in a rising list no key is in the rest and among the keys before it
pub later_others : (done rest : List (List ℕ)) (k : List ℕ) → IsRising (done ++ rest) → IsIn k rest → IsIn k done → ⊥
later_others [] rest k r i j = j
later_others (x ∷ done) rest k r i j =
    ⊎_elim (λ (e : k ≡ x). irreflexive x (under_in x x (done ++ rest) r.0 (subst (λ y. IsIn y (done ++ rest)) e (in_right done))))
    (λ (h : IsIn k done). later_others done rest k r.1 i h) j
  where
    in_right : (ks : List (List ℕ)) → IsIn k (ks ++ rest)
    in_right [] = i
    in_right (y ∷ ys) = inr (in_right ys)

-- ---- keys that rise are apart

-- k differs from each of these
abbrev pub IsAway : List ℕ → List (List ℕ) → Type 0
IsAway k [] = Unit {0}
IsAway k (j ∷ js) = (bytes_eq j k ≡ false) × (bytes_eq k j ≡ false) × IsAway k js

abbrev pub IsApart : List (List ℕ) → Type 0
IsApart [] = Unit {0}
IsApart (k ∷ ks) = IsAway k ks × IsApart ks

pub flip_eq : (j k : List ℕ) → bytes_eq k j ≡ false → bytes_eq j k ≡ false
flip_eq j k e = cases (bytes_eq j k) refl
  where
    cases : (c : Bool) → bytes_eq j k ≡ c → bytes_eq j k ≡ false
    cases false n = n
    cases true n = let s : j ≡ k = (bytes_eq-Decides j k).0 n in absurd (clash (sym (ap (λ x. bytes_eq x j) s) ∙ bytes_same j))
      where
        clash : bytes_eq k j ≡ true → ⊥
        clash f = cc

away : (k : List ℕ) (ks : List (List ℕ)) → IsUnder k ks → IsAway k ks
away k [] u = tt
away k (j ∷ js) u = let e : bytes_eq k j ≡ false = sym (is_eq-slice_cmp k j) ∙ ap is_eq u.0 in (flip_eq j k e, e, away k js u.1)

pub apart : (ks : List (List ℕ)) → IsRising ks → IsApart ks
apart [] r = tt
apart (k ∷ ks) r = (away k ks r.0, apart ks r.1)

pub away_in : (j k : List ℕ) (js : List (List ℕ)) → IsAway j js → IsIn k js → bytes_eq j k ≡ false
away_in j k [] a i = absurd i
away_in j k (x ∷ xs) a i = ⊎_elim (λ (e : k ≡ x). ap (bytes_eq j) e ∙ a.1) (λ (r : IsIn k xs). away_in j k xs a.2 r) i

-- what isn't among keys is away from them
pub away_out : (k : List ℕ) (ks : List (List ℕ)) → (IsIn k ks → ⊥) → IsAway k ks
away_out k [] n = tt
away_out k (j ∷ js) n = (flip_eq j k other, other, away_out k js (λ i. n (inr i)))
  where
    cases : (c : Bool) → bytes_eq k j ≡ c → bytes_eq k j ≡ false
    cases false e = e
    cases true e = absurd (n (inl ((bytes_eq-Decides k j).0 e)))

    other : bytes_eq k j ≡ false
    other = cases (bytes_eq k j) refl

-- ---- lists made key by key

pub flat_map-each : {A : Type 0} (f g : List ℕ → List A) (ks : List (List ℕ)) → ((k : List ℕ) → f k ≡ g k) → flat_map f ks ≡ flat_map g ks
flat_map-each f g [] h = refl
flat_map-each f g (k ∷ ks) h = ap (λ l. l ++ flat_map f ks) (h k) ∙ ap (λ l. g k ++ l) (flat_map-each f g ks h)

pub flat_map-in : (f g : List ℕ → List Planned) (ks : List (List ℕ)) → ((k : List ℕ) → IsIn k ks → f k ≡ g k) → flat_map f ks ≡ flat_map g ks
flat_map-in f g [] h = refl
flat_map-in f g (k ∷ ks) h = ap (λ l. l ++ flat_map f ks) (h k (inl refl)) ∙ ap (λ l. g k ++ l) (flat_map-in f g ks (λ j i. h j (inr i)))
