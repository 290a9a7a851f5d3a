-- Tenures that are met in the order of their versions' ids count as the histories say.
use Rattle.std.proofs.Common.{◌≡◌, ℕ, ◌+◌, ◌≤◌, ◌<◌, ◌==◌, ◌&&◌, List, [], ◌∷◌, ◌++◌, map, filter, flat_map, cond, option_map, Bool, true, false, not, nat_le, Option, Some, None, IfSome, IsTrue, refl, sym, ap, subst, ◌∙◌, arith}
use Rattle.std.specs.List.{AllByRecursion}
use Rattle.std.specs.Str.{bytes_eq}
use Rattle.std.proofs.lemmas.Bool.Decides.{nat_tests}
use Rattle.vault_base.specs.Days.{day, last_moment}
use Rattle.vault_tally.specs.Row.{Item, is_dated, end_day, last_day}
use Rattle.vault_core_model.specs.declared.records.Entry.{Entry}
use Rattle.vault_core_model.specs.declared.records.History.{History}
use Rattle.vault_core_model.specs.declared.records.Removal.{Removal}
use Rattle.vault_core_model.specs.declared.records.Tenure.{Tenure}
use Rattle.vault_core_model.specs.Sound.{AreTenures, FollowOn, end_of}
use Rattle.vault_core_model.specs.Totals.{Share, share, removal_day, shares_from, shares_of, items_by, items_in}
use Rattle.vault_core_model.specs.Vault.{Vault}
use Rattle.vault_core_laws.proofs.Bounds.{day-le, both_true, le_true}
use Rattle.vault_audit_model.specs.Limits.{IsRemoval, IsTenure}
use Rattle.vault_audit_model.specs.Relations.{AreNumbered, AreTenuresInLimits, IsTenured, IsTenuredAs}
use Rattle.vault_audit_model.specs.Spells.{entries_in}
use Rattle.vault_audit_tenures.specs.declared.sums.tenures.StatedTenure.{StatedTenure}
use Rattle.vault_audit_tenures.specs.TenureSums.{share_where, last_share, shares_stated}
use Rattle.sqlite_keyed.proofs.ListLemmas.{all-append}

-- a tenure beside its version
abbrev pub stated : Entry → Tenure → StatedTenure
stated e t = record { id = e.id; tenure = t; size = e.size; removed = option_map (λ r. r.at) e.removal }

abbrev pub stated_in : History → List StatedTenure
stated_in h = map (stated h.entry) h.tenures

-- ---- one version

pub same_id : (n : ℕ) → (n == n) ≡ true
same_id n = grind (arith, nat_tests)

pub other_id : (m n : ℕ) → m < n → (m == n) ≡ false
other_id m n low = grind (arith, nat_tests, low)

pub removal_days : (o : Option Removal) → option_map day (option_map (λ (r : Removal). r.at) o) ≡ removal_day o
removal_days None = refl
removal_days (Some r) = refl

-- the last of a version, as its history has it
last_is : (e : Entry) (t : Tenure) (first : Bool) → last_share first (stated e t) ≡ share e.size first t (removal_day e.removal) true
last_is e t first = ap (λ o. share e.size first t o true) (removal_days e.removal)

abbrev IsBefore : ℕ → StatedTenure → Type 0
IsBefore id t = id < t.id

one_version : (e : Entry) (first : Bool) (t : Tenure) (ts : List Tenure) (rest : List StatedTenure) → AllByRecursion (IsBefore e.id) rest
    → shares_stated first (stated e t ∷ (map (stated e) ts ++ rest)) ≡ shares_from e.size e.removal first (t ∷ ts) ++ shares_stated true rest
one_version e first t [] [] later = ap (λ (s : Share). s ∷ []) (last_is e t first)
one_version e first t [] (k ∷ ks) later =
    ap (λ b. share_where b first (stated e t) k ∷ shares_stated (not b) (k ∷ ks)) (other_id e.id k.id later.0) ∙ ap (λ (s : Share). s ∷ shares_stated true (k ∷ ks)) (last_is e t first)
one_version e first t (u ∷ us) rest later =
    ap (λ b. share_where b first (stated e t) (stated e u) ∷ shares_stated (not b) (stated e u ∷ (map (stated e) us ++ rest))) (same_id e.id)
    ∙ ap (λ ss. share e.size first t (Some (day u.from)) false ∷ ss) (one_version e false u us rest later)

-- ---- the versions after it

stated_later : (id : ℕ) (e : Entry) (ts : List Tenure) → id < e.id → AllByRecursion (IsBefore id) (map (stated e) ts)
stated_later id e [] low = tt
stated_later id e (t ∷ ts) low = (low, stated_later id e ts low)

pub all_later : (external : Bool) (id next low : ℕ) (hs : List History) → id < next → AreNumbered external next low (entries_in hs) → AllByRecursion (IsBefore id) (flat_map stated_in hs)
all_later external id next low [] below are = tt
all_later external id next low (h ∷ hs) below are =
    all-append (IsBefore id) (stated_in h) (flat_map stated_in hs) (stated_later id h.entry h.tenures (omega (arith, below, are.0.1.0)))
    (all_later external id (next + 1) h.entry.admitted hs (omega (arith, below)) are.1)

-- ---- all of them

by_tenures : (e : Entry) (ts : List Tenure) (rest : List StatedTenure) → AllByRecursion (IsBefore e.id) rest
    → shares_stated true (map (stated e) ts ++ rest) ≡ shares_from e.size e.removal true ts ++ shares_stated true rest
by_tenures e [] rest later = refl
by_tenures e (t ∷ ts) rest later = one_version e true t ts rest later

pub shares_are : (external : Bool) (next low : ℕ) (hs : List History) → AreNumbered external next low (entries_in hs) → shares_stated true (flat_map stated_in hs) ≡ flat_map shares_of hs
shares_are external next low [] are = refl
shares_are external next low (h ∷ hs) are =
    let here = are.0.1.0 in
    by_tenures h.entry h.tenures (flat_map stated_in hs) (all_later external h.entry.id (next + 1) h.entry.admitted hs (omega (arith, here)) are.1)
    ∙ ap (λ ss. shares_of h ++ ss) (shares_are external (next + 1) h.entry.admitted hs are.1)

-- ---- those of a department

pub items_after : (name : List ℕ) (xs ys : List Share) → items_by name (xs ++ ys) ≡ items_by name xs ++ items_by name ys
items_after name [] ys = refl
items_after name (x ∷ xs) ys = of (bytes_eq x.dept name) (items_after name xs ys)
  where
    of : (b : Bool) → items_by name (xs ++ ys) ≡ items_by name xs ++ items_by name ys
        → map (λ (s : Share). s.item) (cond b (x ∷ filter (λ (s : Share). bytes_eq s.dept name) (xs ++ ys)) (filter (λ (s : Share). bytes_eq s.dept name) (xs ++ ys)))
        ≡ map (λ (s : Share). s.item) (cond b (x ∷ filter (λ (s : Share). bytes_eq s.dept name) xs) (filter (λ (s : Share). bytes_eq s.dept name) xs)) ++ items_by name ys
    of true more = ap (λ (is : List Item). x.item ∷ is) more
    of false more = more

pub items_are : (name : List ℕ) (hs : List History) → items_by name (flat_map shares_of hs) ≡ items_in name hs
items_are name [] = refl
items_are name (h ∷ hs) = items_after name (shares_of h) (flat_map shares_of hs) ∙ ap (λ (is : List Item). items_by name (shares_of h) ++ is) (items_are name hs)

-- ---- their days

abbrev pub IsDated : Share → Type 0
IsDated s = IsTrue (is_dated s.item)

-- from a moment up to another, or up to the last one
dated_by : (from : ℕ) (o : Option ℕ) → from ≤ last_moment → IfSome o (λ t. (from ≤ t) × (t ≤ last_moment)) → (nat_le (day from) (end_day (option_map day o) last_day) && nat_le (end_day (option_map day o) last_day) last_day) ≡ true
dated_by from None early by = both_true _ _ (le_true (day from) last_day (day-le from last_moment early)) (le_true last_day last_day (omega arith))
dated_by from (Some t) early by = both_true _ _ (le_true (day from) (day t) (day-le from t by.0)) (le_true (day t) last_day (day-le t last_moment by.1))

removed_by : (from last : ℕ) (o : Option Removal) → from ≤ end_of last o → IfSome o IsRemoval → IfSome (option_map (λ (r : Removal). r.at) o) (λ t. (from ≤ t) × (t ≤ last_moment))
removed_by from last None by is = tt
removed_by from last (Some r) by is = (by, is.at)

days_of_one : (moves last size : ℕ) (o : Option Removal) (first : Bool) (t : Tenure) (ts : List Tenure) → IfSome o IsRemoval → FollowOn moves (end_of last o) t ts → AllByRecursion IsTenure (t ∷ ts) → AllByRecursion IsDated (shares_from size o first (t ∷ ts))
days_of_one moves last size o first t [] is on all =
    (subst (λ e. (nat_le (day t.from) (end_day e last_day) && nat_le (end_day e last_day) last_day) ≡ true) (removal_days o) (dated_by t.from (option_map (λ (r : Removal). r.at) o) all.0.from (removed_by t.from last o on is)), tt)
days_of_one moves last size o first t (u ∷ us) is on all = (dated_by t.from (Some u.from) all.0.from (on.2, all.1.0.from), days_of_one moves last size o false u us is on.4 all.1)

days_of : (v : Vault) (h : History) (ts : List Tenure) (marker : Bool) → h.tenures ≡ ts → IsTenuredAs marker v h → IfSome h.entry.removal IsRemoval → AllByRecursion IsTenure ts → AllByRecursion IsDated (shares_from h.entry.size h.entry.removal true ts)
days_of v h [] marker same has is all = tt
days_of v h (t ∷ ts) true same has is all = absurd (let e = sym same ∙ has in cc)
days_of v h (t ∷ ts) false same has is all =
    let are : AreTenures v h.entry (t ∷ ts) = subst (λ xs. AreTenures v h.entry xs) same has.0 in
    days_of_one v.moves v.last h.entry.size h.entry.removal true t ts is are.2 all

pub shares_dated : (external : Bool) (v : Vault) (next low : ℕ) (hs : List History) → AreNumbered external next low (entries_in hs) → AllByRecursion (IsTenured v) hs → AllByRecursion AreTenuresInLimits hs → AllByRecursion IsDated (flat_map shares_of hs)
shares_dated external v next low [] are all limits = tt
shares_dated external v next low (h ∷ hs) are all limits =
    all-append IsDated (shares_of h) (flat_map shares_of hs) (days_of v h h.tenures h.entry.marker refl all.0 are.0.0.removal limits.0)
    (shares_dated external v (next + 1) h.entry.admitted hs are.1 all.1 limits.1)
