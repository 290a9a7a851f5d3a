-- One row holds one tenure beside its version, and the rows of tenures that come one after the other rise.
use Rattle.std.proofs.Common.{◌≡◌, ◌<◌, ◌⊎◌, inl, inr, ℕ, pos, List, [], ◌∷◌, map, Some, Less, refl, sym, ◌∙◌, arith}
use Rattle.std.specs.List.{AllByRecursion}
use Rattle.sqlite_value.specs.Order.{Row}
use Rattle.sqlite_value.proofs.OrderLemmas.{value_cmp-Int}
use Rattle.sqlite_trees.specs.Tree.{IsAscending}
use Rattle.vault_audit_model.proofs.SameRows.{cell, number_same, number_or_null_same, text_same, text_or_null_same}
use Rattle.vault_audit_model.proofs.ValueLemmas.{int_less}
use Rattle.vault_audit_rows.proofs.PairLemmas.{pair_cmp}
use Rattle.vault_audit_entries.proofs.SettingRowLemmas.{int_same}
use Rattle.vault_audit_tenures.specs.declared.owned_tenures.OwnedTenure.{OwnedTenure}
use Rattle.vault_audit_tenures.specs.declared.chain.TenurePass.{TenurePass}
use Rattle.vault_audit_tenures.specs.OwnedTenures.{owned_row}
use Rattle.vault_audit_tenures.specs.Chain.{Follows, Fit, with_tenure}

-- ---- one row holds one tenure

pub same_owned : (x y : OwnedTenure) → owned_row x ≡ owned_row y → x ≡ y
same_owned x y e =
    let one = λ (at : ℕ). cell (owned_row x) (owned_row y) at e in
    rw (number_same x.id y.id (one 0), number_same x.tenure.number y.tenure.number (one 1), text_same x.tenure.dept y.tenure.dept (one 2), number_same x.tenure.from y.tenure.from (one 3))
    (rw (number_same x.admitted y.admitted (one 4), number_or_null_same x.removed y.removed (one 5), text_or_null_same x.owner y.owner (one 6)) refl)

pub one_tenure : (row : Row) (x y : OwnedTenure) → row ≡ owned_row x → row ≡ owned_row y → x ≡ y
one_tenure row x y is_x is_y = same_owned x y (sym is_x ∙ is_y)

pub same_list : (xs ys : List OwnedTenure) → map owned_row xs ≡ map owned_row ys → xs ≡ ys
same_list [] [] e = refl
same_list [] (y ∷ ys) e = absurd cc
same_list (x ∷ xs) [] e = absurd cc
same_list (x ∷ xs) (y ∷ ys) e =
    let first : owned_row x ≡ owned_row y = cc in
    let rest : map owned_row xs ≡ map owned_row ys = cc in
    rw (same_owned x y first, same_list xs ys rest) refl

-- ---- the rows rise

abbrev IsBelow : OwnedTenure → OwnedTenure → Type 0
IsBelow x y = (x.id < y.id) ⊎ ((x.id ≡ y.id) × (x.tenure.number < y.tenure.number))

pair_less : (x y : OwnedTenure) → IsBelow x y → pair_cmp (owned_row x) (owned_row y) ≡ Less
pair_less x y (inl low) = rw (value_cmp-Int (pos x.id) (pos y.id), int_less x.id y.id low) refl
pair_less x y (inr (same, low)) =
    rw (value_cmp-Int (pos x.id) (pos y.id), int_same x.id y.id same, value_cmp-Int (pos x.tenure.number) (pos y.tenure.number), int_less x.tenure.number y.tenure.number low) refl

next_above : (x y : OwnedTenure) → Follows (Some x) y → IsBelow x y
next_above x y (inl (same, next)) = inr (sym same, next.0)
next_above x y (inr (up, first, ended)) = inl up

further : (x y z : OwnedTenure) → IsBelow x y → IsBelow y z → IsBelow x z
further x y z (inl a) (inl b) = inl (omega (arith, a, b))
further x y z (inl a) (inr (b, c)) = inl (omega (arith, a, b))
further x y z (inr (a, b)) (inl c) = inl (omega (arith, a, c))
further x y z (inr (a, b)) (inr (c, d)) = inr (a ∙ c, omega (arith, b, d))

above : (p : TenurePass) (x y : OwnedTenure) (ys : List OwnedTenure) → IsBelow x y → Fit (with_tenure p y) ys → AllByRecursion (λ row. pair_cmp (owned_row x) row ≡ Less) (map owned_row ys)
above p x y [] low fit = tt
above p x y (z ∷ zs) low fit =
    let here = further x y z low (next_above y z fit.0.2) in
    (pair_less x z here, above (with_tenure p y) x z zs here fit.1)

after : (p : TenurePass) (x : OwnedTenure) (ys : List OwnedTenure) → Fit (with_tenure p x) ys → AllByRecursion (λ row. pair_cmp (owned_row x) row ≡ Less) (map owned_row ys)
after p x [] fit = tt
after p x (y ∷ ys) fit =
    let here = next_above x y fit.0.2 in
    (pair_less x y here, above (with_tenure p x) x y ys here fit.1)

pub rise : (p : TenurePass) (xs : List OwnedTenure) → Fit p xs → IsAscending (λ a b. pair_cmp a b ≡ Less) (map owned_row xs)
rise p [] fit = tt
rise p (x ∷ xs) fit = (after p x xs fit.1, rise (with_tenure p x) xs fit.1)
