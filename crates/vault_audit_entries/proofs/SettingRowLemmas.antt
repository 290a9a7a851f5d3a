-- One row holds one setting, and the rows of settings that come one after the other rise.
use Rattle.std.proofs.Common.{◌≡◌, ◌<◌, ◌+◌, ◌⊎◌, inl, inr, ℕ, pos, List, [], ◌∷◌, map, Less, Equal, refl, sym, ◌∙◌, arith}
use Rattle.std.specs.List.{AllByRecursion}
use Rattle.std.specs.Ordering.{int_cmp}
use Rattle.sqlite_value.specs.Order.{Row}
use Rattle.sqlite_value.proofs.OrderLemmas.{value_cmp-Int}
use Rattle.sqlite_trees.specs.Tree.{IsAscending}
use Rattle.vault_audit_model.specs.declared.rows.SettingRow.{SettingRow}
use Rattle.vault_audit_model.specs.Rows.{setting_row}
use Rattle.vault_audit_model.proofs.SameRows.{same_setting}
use Rattle.vault_audit_model.proofs.ValueLemmas.{int_less}
use Rattle.vault_audit_rows.specs.Pass.{AllFit}
use Rattle.vault_audit_rows.proofs.PairLemmas.{pair_cmp}
use Rattle.vault_audit_entries.specs.declared.settings.placed.SettingPass.{SettingPass}
use Rattle.vault_audit_entries.specs.SettingPlaces.{ComesNext, with_setting}

-- ---- one row holds one setting

pub one_setting : (row : Row) (x y : SettingRow) → row ≡ setting_row x → row ≡ setting_row y → x ≡ y
one_setting row x y is_x is_y = same_setting x y (sym is_x ∙ is_y)

-- ---- the rows rise

abbrev pub Fit : SettingPass → List SettingRow → Type 0
Fit = AllFit setting_row ComesNext with_setting

abbrev IsBelow : ℕ → ℕ → ℕ → ℕ → Type 0
IsBelow a b c d = (a < c) ⊎ ((a ≡ c) × (b < d))

pub int_same : (a b : ℕ) → a ≡ b → int_cmp (pos a) (pos b) ≡ Equal
int_same a b same = grind arith

pair_less : (x y : SettingRow) → IsBelow x.id x.place y.id y.place → pair_cmp (setting_row x) (setting_row y) ≡ Less
pair_less x y (inl low) = rw (value_cmp-Int (pos x.id) (pos y.id), int_less x.id y.id low) refl
pair_less x y (inr (same, low)) = rw (value_cmp-Int (pos x.id) (pos y.id), int_same x.id y.id same, value_cmp-Int (pos x.place) (pos y.place), int_less x.place y.place low) refl

-- one that is below what comes next is below that
below_next : (a b : ℕ) (p : SettingPass) (y : SettingRow) → IsBelow a b p.id p.next → ComesNext p y → IsBelow a b y.id y.place
below_next a b p y (inl low) (is, inl (same, place)) = inl (omega (arith, low, same))
below_next a b p y (inr (e, low)) (is, inl (same, place)) = inr (omega (arith, e, same), omega (arith, low, place))
below_next a b p y (inl low) (is, inr (up, place)) = inl (omega (arith, low, up))
below_next a b p y (inr (e, low)) (is, inr (up, place)) = inl (omega (arith, e, up))

below_more : (a b c d : ℕ) → IsBelow a b c d → IsBelow a b c (d + 1)
below_more a b c d (inl low) = inl low
below_more a b c d (inr (e, low)) = inr (e, omega (arith, low))

above : (p : SettingPass) (x : SettingRow) (xs : List SettingRow) → IsBelow x.id x.place p.id p.next → Fit p xs → AllByRecursion (λ row. pair_cmp (setting_row x) row ≡ Less) (map setting_row xs)
above p x [] low fit = tt
above p x (y ∷ xs) low fit =
    let here = below_next x.id x.place p y low fit.0 in
    (pair_less x y here, above (with_setting p y) x xs (below_more x.id x.place y.id y.place here) fit.1)

pub rise : (p : SettingPass) (xs : List SettingRow) → Fit p xs → IsAscending (λ a b. pair_cmp a b ≡ Less) (map setting_row xs)
rise p [] fit = tt
rise p (x ∷ xs) fit = (above (with_setting p x) x xs (inr (refl, omega arith)) fit.1, rise (with_setting p x) xs fit.1)
