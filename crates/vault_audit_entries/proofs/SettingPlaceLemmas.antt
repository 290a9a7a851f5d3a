-- Settings that come one after the other, cut into those of each id.
use Rattle.std.proofs.Common.{◌≡◌, ◌≤◌, ◌<◌, ◌+◌, ◌⊎◌, ◌||◌, ◌==◌, inl, inr, ℕ, zero, suc, List, [], ◌∷◌, ◌++◌, length, Bool, true, false, refl, ap₂, subst, IsTrue, arith}
use Rattle.std.specs.List.{AllByRecursion, list_any}
use Rattle.std.proofs.lemmas.Bool.Decides.{nat_tests}
use Rattle.std.proofs.lemmas.List.Folds.{list_any-append}
use Rattle.vault_base.specs.Limits.{most_settings}
use Rattle.vault_base.specs.Name.{is_version_id}
use Rattle.vault_core_model.specs.declared.records.Setting.{Setting}
use Rattle.vault_audit_model.specs.declared.rows.SettingRow.{SettingRow}
use Rattle.vault_audit_model.specs.Limits.{IsSetting}
use Rattle.vault_audit_model.specs.Spells.{settings_from}
use Rattle.vault_audit_entries.specs.declared.settings.placed.SettingPass.{SettingPass}
use Rattle.vault_audit_entries.proofs.SettingRowLemmas.{Fit}

abbrev pub at_place : ℕ → ℕ → SettingPass
at_place id next = record { id = id; next = next }

-- ---- into the settings of one id, and the others

below_or : (a b : ℕ) → a ≤ b → (b ≡ a) ⊎ (a < b)
below_or zero zero low = inl refl
below_or zero (suc b) low = inr (omega arith)
below_or (suc a) zero low = absurd (omega (arith, low))
below_or (suc a) (suc b) low = up (below_or a b (omega (arith, low)))
  where
    up : (b ≡ a) ⊎ (a < b) → (suc b ≡ suc a) ⊎ (suc a < suc b)
    up (inl same) = inl (omega (arith, same))
    up (inr less) = inr (omega (arith, less))

-- after all settings of an id, those of the next one begin
pub enter : (n : ℕ) (xs : List SettingRow) → Fit (at_place n 0) xs → Fit (at_place (n + 1) 1) xs
enter n [] fit = tt
enter n (x ∷ xs) ((is, inl (same, place)), more) = absurd (omega (arith, is.place.0, place))
enter n (x ∷ xs) ((is, inr (up, place)), more) = begun (below_or (n + 1) x.id (omega (arith, up)))
  where
    begun : (x.id ≡ n + 1) ⊎ (n + 1 < x.id) → Fit (at_place (n + 1) 1) (x ∷ xs)
    begun (inl same) = ((is, inl (same, place)), more)
    begun (inr less) = ((is, inr (less, place)), more)

row_alike : (x : SettingRow) (id place : ℕ) → x.id ≡ id → x.place ≡ place → x ≡ record { id = id; place = place; setting = x.setting }
row_alike x id place p q = ap₂ (λ (i n : ℕ). record { id = i; place = n; setting = x.setting }) p q

-- the settings of the id from this place on, and the rows after them
pub record Cut (id next : ℕ) (xs : List SettingRow) : Type 0 where
  pub settings : List Setting
  pub rest : List SettingRow
  pub whole : xs ≡ settings_from id next settings ++ rest
  pub are : AllByRecursion IsSetting settings
  pub count : next + length settings ≤ most_settings + 1
  pub fit : Fit (at_place id 0) rest

pub cut : (id next : ℕ) (xs : List SettingRow) → next ≤ most_settings + 1 → Fit (at_place id next) xs → Cut id next xs
cut id next [] low fit = record { settings = []; rest = []; whole = refl; are = tt; count = omega (arith, low); fit = tt }
cut id next (x ∷ xs) low ((is, inl (same, place)), more) =
    let on : Fit (at_place id (next + 1)) xs = subst (λ p. Fit p xs) (ap₂ (λ i n. at_place i (n + 1)) same place) more in
    let later = cut id (next + 1) xs (omega (arith, is.place.1, place)) on in
    record {
      settings = x.setting ∷ later.settings;
      rest = later.rest;
      whole = ap₂ (λ (y : SettingRow) (ys : List SettingRow). y ∷ ys) (row_alike x id next same place) later.whole;
      are = (is.setting, later.are);
      count = omega (arith, later.count);
      fit = later.fit;
    }
cut id next (x ∷ xs) low ((is, inr (up, place)), more) =
    record { settings = []; rest = x ∷ xs; whole = refl; are = tt; count = omega (arith, low); fit = ((is, inr (up, place)), more) }

-- ---- which ids come

upper : (a b : ℕ) → a ≤ b → (xs : List SettingRow) → AllByRecursion (λ x. b ≤ x.id) xs → AllByRecursion (λ x. a ≤ x.id) xs
upper a b low [] all = tt
upper a b low (x ∷ xs) all = (omega (arith, low, all.0), upper a b low xs all.1)

no_less : (id next a b : ℕ) → ((a ≡ id) × (b ≡ next)) ⊎ ((id < a) × (b ≡ 1)) → id ≤ a
no_less id next a b (inl (same, place)) = omega (arith, same)
no_less id next a b (inr (up, place)) = omega (arith, up)

not_below : (id next : ℕ) (xs : List SettingRow) → Fit (at_place id next) xs → AllByRecursion (λ x. id ≤ x.id) xs
not_below id next [] fit = tt
not_below id next (x ∷ xs) fit =
    let here = no_less id next x.id x.place fit.0.1 in
    (here, upper id x.id here xs (not_below x.id (x.place + 1) xs fit.1))

at_least : (a b : ℕ) → a < b → (xs : List SettingRow) → AllByRecursion (λ x. b ≤ x.id) xs → AllByRecursion (λ x. a < x.id) xs
at_least a b low [] all = tt
at_least a b low (x ∷ xs) all = (omega (arith, low, all.0), at_least a b low xs all.1)

pub later_ids : (id : ℕ) (xs : List SettingRow) → Fit (at_place id 0) xs → AllByRecursion (λ x. id < x.id) xs
later_ids id [] fit = tt
later_ids id (x ∷ xs) ((is, inl (same, place)), more) = absurd (omega (arith, is.place.0, place))
later_ids id (x ∷ xs) ((is, inr (up, place)), more) = (up, at_least id x.id up xs (not_below x.id (x.place + 1) xs more))

-- a setting of that id is among these
abbrev pub has_id : ℕ → List SettingRow → Bool
has_id i xs = list_any (λ x. x.id == i) xs

apart : (a b : ℕ) → a < b → (b == a) ≡ false
apart a b low = grind (arith, nat_tests)

apart_below : (a b : ℕ) → a < b → (a == b) ≡ false
apart_below a b low = grind (arith, nat_tests)

alike : (a : ℕ) → (a == a) ≡ true
alike a = grind (arith, nat_tests)

pub none_later : (i : ℕ) (xs : List SettingRow) → AllByRecursion (λ x. i < x.id) xs → has_id i xs ≡ false
none_later i [] all = refl
none_later i (x ∷ xs) all = rw (apart i x.id all.0) (none_later i xs all.1)

pub none_in : (i id place : ℕ) (ss : List Setting) → id < i → has_id i (settings_from id place ss) ≡ false
none_in i id place [] low = refl
none_in i id place (s ∷ ss) low = rw (apart_below id i low) (none_in i id (place + 1) ss low)

abbrev pub is_some_of : List Setting → Bool
is_some_of [] = false
is_some_of (s ∷ ss) = true

pub any_in : (id place : ℕ) (ss : List Setting) → has_id id (settings_from id place ss) ≡ is_some_of ss
any_in id place [] = refl
any_in id place (s ∷ ss) = rw (alike id) refl

pub has_append : (i : ℕ) (xs ys : List SettingRow) → has_id i (xs ++ ys) ≡ (has_id i xs || has_id i ys)
has_append i xs ys = list_any-append (λ x. x.id == i) xs ys

-- ---- from the settings of one id

-- they fit, where what follows fits after any of them
pub run_fits : (id place : ℕ) (ss : List Setting) (rest : List SettingRow) → IsTrue (is_version_id id) → 1 ≤ place → place + length ss ≤ most_settings + 1 → AllByRecursion IsSetting ss → ((k : ℕ) → Fit (at_place id k) rest)
    → Fit (at_place id place) (settings_from id place ss ++ rest)
run_fits id place [] rest is low high all after = after place
run_fits id place (s ∷ ss) rest is low high all after =
    ((record { id = is; place = (low, omega (arith, high)); setting = all.0 }, inl (refl, refl)), run_fits id (place + 1) ss rest is (omega (arith, low)) (omega (arith, high)) all.1 after)

-- so they do after an earlier id
pub first_fits : (p : SettingPass) (id : ℕ) (ss : List Setting) (rest : List SettingRow) → p.id < id → IsTrue (is_version_id id) → length ss ≤ most_settings → AllByRecursion IsSetting ss → ((k : ℕ) → Fit (at_place id k) rest) → Fit p rest
    → Fit p (settings_from id 1 ss ++ rest)
first_fits p id [] rest low is high all after here = here
first_fits p id (s ∷ ss) rest low is high all after here =
    ((record { id = is; place = (omega arith, omega arith); setting = all.0 }, inr (low, refl)), run_fits id 2 ss rest is (omega arith) (omega (arith, high)) all.1 after)
