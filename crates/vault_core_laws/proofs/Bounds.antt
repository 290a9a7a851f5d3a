-- The days of the tenures of a sound vault are in order.
use Rattle.std.proofs.Common.{◌≡◌, ℕ, ◌≤◌, List, [], ◌∷◌, map, Bool, true, false, Option, Some, None, refl, sym, subst, arith, lit<}
use Rattle.std.specs.Prelude.{filter, if◌then◌else◌, nat_le, ◌&&◌}
use Rattle.std.specs.List.{AllByRecursion, list_all}
use Rattle.std.specs.Str.{bytes_eq}
use Rattle.std.proofs.lemmas.List.Folds.{list_all-append}
use Rattle.std.proofs.lemmas.Nat.{le-div}
use Rattle.std.proofs.Math.Nat.{div-mul-le_self}
use Rattle.vault_base.specs.Days.{day, day_length, last_moment}
use Rattle.vault_tally.specs.Row.{Item, AreBounded, AreBegunBy, is_dated, end_day, last_day}
use Rattle.vault_tally.proofs.Bounds.{got}
use Rattle.vault_core_model.specs.declared.records.History.{History}
use Rattle.vault_core_model.specs.declared.records.Removal.{Removal}
use Rattle.vault_core_model.specs.declared.records.Tenure.{Tenure}
use Rattle.vault_core_model.specs.Vault.{Vault}
use Rattle.vault_core_model.specs.Sound.{Sound, AreTenures, FollowOn, HasTenures, HasTenuresAs, IsInTime, end_of}
use Rattle.vault_core_model.specs.Totals.{Share, items_by, items_in, items_of, removal_day, shares_from, shares_of}
use Rattle.vault_core_laws.proofs.Lists.{All-both}
use Rattle.vault_core_laws.proofs.Tenures.{end-by, reaches}

-- a later moment lies on no earlier day
pub day-le : (s t : ℕ) → s ≤ t → day s ≤ day t
day-le s t le = le-div (day s) t day_length (lit< tt) (omega (arith, div-mul-le_self s day_length))

pub le_true : (m n : ℕ) → m ≤ n → nat_le m n ≡ true
le_true m n le = grind (arith, le)

pub both_true : (a b : Bool) → a ≡ true → b ≡ true → (a && b) ≡ true
both_true a b e f = rw (e, f) refl

-- ---- a test of each tenure

-- the test passes of each of these tenures
abbrev pub AllPassOf : (Item → Bool) → List Share → Type 0
AllPassOf test ss = AllByRecursion (λ s. test s.item ≡ true) ss

by_department : (test : Item → Bool) (dept : List ℕ) (ss : List Share) → AllPassOf test ss → list_all test (items_by dept ss) ≡ true
by_department test dept [] all = refl
by_department test dept (s ∷ ss) all =
    elim (bytes_eq s.dept dept) as (λ b. list_all test (map (λ (x : Share). x.item) (if b then s ∷ filter (λ x. bytes_eq x.dept dept) ss else filter (λ x. bytes_eq x.dept dept) ss)) ≡ true) [
      | true ↦ both_true (test s.item) (list_all test (items_by dept ss)) all.0 (by_department test dept ss all.1)
      | false ↦ by_department test dept ss all.1
    ]

-- so of those that a department has
pub each_item : (test : Item → Bool) (dept : List ℕ) (hs : List History) → AllByRecursion (λ h. AllPassOf test (shares_of h)) hs → list_all test (items_in dept hs) ≡ true
each_item test dept [] all = refl
each_item test dept (h ∷ hs) all =
    rw (list_all-append test (items_by dept (shares_of h)) (items_in dept hs))
    (both_true (list_all test (items_by dept (shares_of h))) (list_all test (items_in dept hs)) (by_department test dept (shares_of h) all.0) (each_item test dept hs all.1))

-- what the shares of any tenures in order have, those of each version have, and a marker has no share
pub each_version : (v : Vault) (P : List Share → Type 0) → P []
    → ((size : ℕ) (r : Option Removal) (t : Tenure) (ts : List Tenure) → end_of v.last r ≤ v.last → FollowOn v.moves (end_of v.last r) t ts → P (shares_from size r true (t ∷ ts)))
    → (hs : List History) → AllByRecursion (IsInTime v.last) hs → AllByRecursion (HasTenures v) hs → AllByRecursion (λ h. P (shares_of h)) hs
each_version v P none some hs in_time tenured =
    All-both (IsInTime v.last) (HasTenures v) (λ h. P (shares_of h)) (λ h lies has. one h (end-by h.entry.admitted v.last h.entry.removal lies) h.tenures h.entry.marker refl has) hs in_time tenured
  where
    one : (h : History) → end_of v.last h.entry.removal ≤ v.last → (ts : List Tenure) (marker : Bool) → h.tenures ≡ ts → HasTenuresAs marker v h → P (shares_of h)
    one h le ts true is has = subst (λ xs. P (shares_from h.entry.size h.entry.removal true xs)) (sym has) none
    one h le [] false is has = absurd (subst (λ xs. AreTenures v h.entry xs) is has.0)
    one h le (t ∷ ts) false is has =
        let are : AreTenures v h.entry (t ∷ ts) = subst (λ xs. AreTenures v h.entry xs) is has.0 in
        subst (λ xs. P (shares_from h.entry.size h.entry.removal true xs)) (sym is) (some h.entry.size h.entry.removal t ts le are.2)

-- ---- the days

pub dated : (from last : ℕ) (r : Option Removal) → from ≤ end_of last r → end_of last r ≤ last → last ≤ last_moment → (nat_le (day from) (end_day (removal_day r) last_day) && nat_le (end_day (removal_day r) last_day) last_day) ≡ true
dated from last None early by le = both_true _ _ (le_true (day from) last_day (day-le from last_moment (omega arith))) (le_true last_day last_day (omega arith))
dated from last (Some r) early by le = both_true _ _ (le_true (day from) (day r.at) (day-le from r.at early)) (le_true (day r.at) last_day (day-le r.at last_moment (omega arith)))

shares-dated : (moves last size : ℕ) (r : Option Removal) (first : Bool) (t : Tenure) (ts : List Tenure) → end_of last r ≤ last → last ≤ last_moment → FollowOn moves (end_of last r) t ts → AllPassOf is_dated (shares_from size r first (t ∷ ts))
shares-dated moves last size r first t [] by le on = (dated t.from last r on by le, tt)
shares-dated moves last size r first t (u ∷ us) by le on = (
  both_true _ _ (le_true (day t.from) (day u.from) (day-le t.from u.from on.2)) (le_true (day u.from) last_day (day-le u.from last_moment (omega (arith, reaches moves (end_of last r) u us on.4)))),
  shares-dated moves last size r false u us by le on.4,
)

shares-begun : (moves last size t : ℕ) (r : Option Removal) (first : Bool) (x : Tenure) (xs : List Tenure) → end_of last r ≤ last → last ≤ t → FollowOn moves (end_of last r) x xs → AllPassOf (λ i. nat_le i.from (day t)) (shares_from size r first (x ∷ xs))
shares-begun moves last size t r first x [] by le on = (le_true (day x.from) (day t) (day-le x.from t (omega (arith, on))), tt)
shares-begun moves last size t r first x (u ∷ us) by le on = (
  le_true (day x.from) (day t) (day-le x.from t (omega (arith, on.2, reaches moves (end_of last r) u us on.4))),
  shares-begun moves last size t r false u us by le on.4,
)

pub items-bounded : (v : Vault) (dept : List ℕ) → Sound v → v.last ≤ last_moment → AreBounded (items_of v dept)
items-bounded v dept sound le = record {
  dated = each_item is_dated dept v.histories (each_version v (AllPassOf is_dated) tt (λ size r t ts by on. shares-dated v.moves v.last size r true t ts by le on) v.histories sound.in_time sound.tenured);
  within = omega (arith, got (items_of v dept), sound.within dept);
}

pub items-begun_by : (v : Vault) (dept : List ℕ) (t : ℕ) → Sound v → v.last ≤ t → AreBegunBy (day t) (items_of v dept)
items-begun_by v dept t sound le =
    each_item (λ i. nat_le i.from (day t)) dept v.histories
    (each_version v (AllPassOf (λ i. nat_le i.from (day t))) tt (λ size r x xs by on. shares-begun v.moves v.last size t r true x xs by le on) v.histories sound.in_time sound.tenured)
