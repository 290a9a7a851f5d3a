-- What the tenures of a held version count, before it gets one more and after.
use Rattle.std.proofs.Common.{◌≡◌, ℕ, ◌+◌, ◌*◌, List, [], ◌∷◌, ◌++◌, true, false, Bool, Some, None, refl, ap, ◌∙◌, arith}
use Rattle.std.specs.Prelude.{sum_by, if◌then◌else◌, option_map, is_none}
use Rattle.std.specs.Str.{bytes_eq}
use Rattle.vault_base.specs.Days.{day}
use Rattle.vault_tally.specs.Row.{Item, weight, held_item, handed_item}
use Rattle.vault_core_model.specs.declared.records.Tenure.{Tenure}
use Rattle.vault_core_model.specs.Sound.{last_tenure}
use Rattle.vault_core_model.specs.Totals.{Share, share, items_by, shares_from, last_day_from}
use Rattle.vault_core_laws.proofs.Items.{by-cons}

-- the shares of two lists
by_append : (f : Item → ℕ) (d : List ℕ) (xs ys : List Share) → sum_by f (items_by d (xs ++ ys)) ≡ sum_by f (items_by d xs) + sum_by f (items_by d ys)
by_append f d [] ys = omega arith
by_append f d (x ∷ xs) ys = omega (arith, by-cons f d x (xs ++ ys), by-cons f d x xs, by_append f d xs ys)

-- ---- the tenures before the last, and the last one

-- the shares of the tenures that ended as the next began
abbrev pub front : ℕ → Bool → List Tenure → List Share
front size first [] = []
front size first (t ∷ []) = []
front size first (t ∷ u ∷ us) = share size first t (Some (day u.from)) false ∷ front size false (u ∷ us)

-- what the last tenure counts, while the version is held
abbrev pub last_item : ℕ → Bool → List Tenure → Item
last_item size first [] = held_item first size 0
last_item size first (t ∷ []) = held_item first size (day t.from)
last_item size first (t ∷ u ∷ us) = last_item size false (u ∷ us)

-- the department of the last one
abbrev pub last_dept : Tenure → List Tenure → List ℕ
last_dept t [] = t.dept
last_dept t (u ∷ us) = last_dept u us

abbrev of_dept : List ℕ → Item → Share
of_dept d i = record { dept = d; item = i }

-- the shares of a held version
split : (size : ℕ) (first : Bool) (t : Tenure) (ts : List Tenure) → shares_from size None first (t ∷ ts) ≡ front size first (t ∷ ts) ++ of_dept (last_dept t ts) (last_item size first (t ∷ ts)) ∷ []
split size first t [] = refl
split size first t (u ∷ us) = ap (λ ss. share size first t (Some (day u.from)) false ∷ ss) (split size false u us)

-- and with one tenure more: the last one is handed over, and the new one received
split_more : (size : ℕ) (first : Bool) (t : Tenure) (ts : List Tenure) (x : Tenure) → shares_from size None first (t ∷ (ts ++ x ∷ []))
    ≡ front size first (t ∷ ts) ++ of_dept (last_dept t ts) (handed_item (day x.from) (last_item size first (t ∷ ts))) ∷ of_dept x.dept (held_item false size (day x.from)) ∷ []
split_more size first t [] x = refl
split_more size first t (u ∷ us) x = ap (λ ss. share size first t (Some (day u.from)) false ∷ ss) (split_more size false u us x)

-- ---- what they count for a department

abbrev pub where_own : List ℕ → List ℕ → ℕ → ℕ
where_own own d n = if bytes_eq own d then n else 0

-- before the new tenure
pub sum_before : (f : Item → ℕ) (d : List ℕ) (size : ℕ) (first : Bool) (t : Tenure) (ts : List Tenure)
    → sum_by f (items_by d (shares_from size None first (t ∷ ts))) ≡ sum_by f (items_by d (front size first (t ∷ ts))) + where_own (last_dept t ts) d (f (last_item size first (t ∷ ts)))
sum_before f d size first t ts =
    let i = last_item size first (t ∷ ts) in
    let own = last_dept t ts in
    ap (λ ss. sum_by f (items_by d ss)) (split size first t ts) ∙ omega (arith, by_append f d (front size first (t ∷ ts)) (of_dept own i ∷ []), by-cons f d (of_dept own i) [])

-- after it
pub sum_after : (f : Item → ℕ) (d : List ℕ) (size : ℕ) (first : Bool) (t : Tenure) (ts : List Tenure) (x : Tenure)
    → sum_by f (items_by d (shares_from size None first (t ∷ (ts ++ x ∷ [])))) ≡ sum_by f (items_by d (front size first (t ∷ ts))) + (where_own (last_dept t ts) d (f (handed_item (day x.from) (last_item size first (t ∷ ts)))) + where_own x.dept d (f (held_item false size (day x.from))))
sum_after f d size first t ts x =
    let i = handed_item (day x.from) (last_item size first (t ∷ ts)) in
    let j = held_item false size (day x.from) in
    let own = last_dept t ts in
    ap (λ ss. sum_by f (items_by d ss)) (split_more size first t ts x)
    ∙ omega (arith, by_append f d (front size first (t ∷ ts)) (of_dept own i ∷ of_dept x.dept j ∷ []), by-cons f d (of_dept own i) (of_dept x.dept j ∷ []), by-cons f d (of_dept x.dept j) [])

-- ---- the last tenure

pub last_is : (t : Tenure) (ts : List Tenure) → option_map (λ (y : Tenure). y.dept) (last_tenure (t ∷ ts)) ≡ Some (last_dept t ts)
last_is t [] = refl
last_is t (u ∷ us) = last_is u us

pub last_weighs : (size : ℕ) (first : Bool) (t : Tenure) (ts : List Tenure) → weight (last_item size first (t ∷ ts)) ≡ size * last_day_from (t ∷ ts)
last_weighs size first t [] = refl
last_weighs size first t (u ∷ us) = last_weighs size false u us

pub last_sized : (size : ℕ) (first : Bool) (t : Tenure) (ts : List Tenure) → (last_item size first (t ∷ ts)).size ≡ size
last_sized size first t [] = refl
last_sized size first t (u ∷ us) = last_sized size false u us

pub last_held : (size : ℕ) (first : Bool) (t : Tenure) (ts : List Tenure) → is_none (last_item size first (t ∷ ts)).ended ≡ true
last_held size first t [] = refl
last_held size first t (u ∷ us) = last_held size false u us
