-- What is received is handed over.
use Rattle.std.proofs.Common.{◌≡◌, ℕ, ◌+◌, List, [], ◌∷◌, Bool, true, false, Option, Some, None, IsTrue, refl, sym, subst, ◌∙◌, arith}
use Rattle.std.specs.Prelude.{sum_by, if◌then◌else◌}
use Rattle.std.specs.List.{AllByRecursion, list_any}
use Rattle.std.specs.Str.{bytes_eq}
use Rattle.std.proofs.lemmas.List.Sums.{sum_by-cons}
use Rattle.vault_base.specs.Days.{day}
use Rattle.vault_tally.specs.Row.{Item, received_size, handed_size, if_held}
use Rattle.vault_tally.proofs.Bounds.{got, balance}
use Rattle.vault_core_model.specs.declared.records.History.{History}
use Rattle.vault_core_model.specs.declared.records.Removal.{Removal}
use Rattle.vault_core_model.specs.declared.records.Tenure.{Tenure}
use Rattle.vault_core_model.specs.Vault.{Vault}
use Rattle.vault_core_model.specs.Sound.{Sound, AreTenures, HasTenures, HasTenuresAs}
use Rattle.vault_core_model.specs.Totals.{Share, share, items_of, shares_from, shares_of, removal_day, admitted_bytes, received_bytes, held_bytes, removed_bytes, handed_bytes, over_departments}
use Rattle.vault_core_laws.proofs.Exchange.{AreThere, over_is, both_sums}

pub one_place : (v : Vault) (dept : List ℕ) → admitted_bytes v dept + received_bytes v dept ≡ held_bytes v dept + (removed_bytes v dept + handed_bytes v dept)
one_place v dept = got (items_of v dept) ∙ sym (balance (items_of v dept))

-- a number of each share of a version
abbrev pub each : (Item → ℕ) → List Share → ℕ
each f ss = sum_by (λ s. f s.item) ss

pub last_handed : (e : Option ℕ) (size : ℕ) → if_held e 0 (if true then 0 else size) ≡ 0
last_handed None size = refl
last_handed (Some d) size = refl

first_or : (first : Bool) (size : ℕ) → (if first then 0 else size) + (if first then size else 0) ≡ size
first_or true size = omega arith
first_or false size = omega arith

balanced : (size : ℕ) (r : Option Removal) (first : Bool) (t : Tenure) (ts : List Tenure)
    → each received_size (shares_from size r first (t ∷ ts)) + (if first then size else 0) ≡ each handed_size (shares_from size r first (t ∷ ts)) + size
balanced size r first t [] = omega (arith, first_or first size, last_handed (removal_day r) size)
balanced size r first t (u ∷ us) =
    let rest = shares_from size r false (u ∷ us) in
    let own = share size first t (Some (day u.from)) false in
    omega (
      arith,
      first_or first size,
      balanced size r false u us,
      sum_by-cons (λ (s : Share). received_size s.item) own rest,
      sum_by-cons (λ (s : Share). handed_size s.item) own rest,
    )

-- ---- the departments of tenures are there

there_from : (ds : List (List ℕ)) (size : ℕ) (r : Option Removal) (first : Bool) (ts : List Tenure) → AllByRecursion (λ t. IsTrue (list_any (λ d. bytes_eq d t.dept) ds)) ts → AreThere ds (shares_from size r first ts)
there_from ds size r first [] all = tt
there_from ds size r first (t ∷ []) all = (all.0, tt)
there_from ds size r first (t ∷ u ∷ us) all = (all.0, there_from ds size r false (u ∷ us) all.1)

there_by : (marker : Bool) (v : Vault) (h : History) → HasTenuresAs marker v h → AreThere v.departments (shares_of h)
there_by true v h has = subst (λ ts. AreThere v.departments (shares_from h.entry.size h.entry.removal true ts)) (sym has) tt
there_by false v h has = there_from v.departments h.entry.size h.entry.removal true h.tenures has.1

pub all_there : (v : Vault) (hs : List History) → AllByRecursion (HasTenures v) hs → AllByRecursion (λ h. AreThere v.departments (shares_of h)) hs
all_there v [] all = tt
all_there v (h ∷ hs) all = (there_by h.entry.marker v h all.0, all_there v hs all.1)

pub over : (v : Vault) → Sound v → (f : Item → ℕ) → over_departments v (λ d. sum_by f (items_of v d)) ≡ sum_by (λ h. each f (shares_of h)) v.histories
over v sound f = over_is f v.departments v.histories sound.ordered.departments (all_there v v.histories sound.tenured)

-- ---- each version

balanced_by : (v : Vault) (h : History) (ts : List Tenure) (marker : Bool) → h.tenures ≡ ts → HasTenuresAs marker v h → each received_size (shares_of h) ≡ each handed_size (shares_of h)
balanced_by v h ts true is has = let e = has in rw e refl
balanced_by v h [] false is has = absurd (subst (λ ts. AreTenures v h.entry ts) is has.0)
balanced_by v h (t ∷ ts) false is has =
    let P : List Tenure → Type 0 = λ xs. each received_size (shares_from h.entry.size h.entry.removal true xs) ≡ each handed_size (shares_from h.entry.size h.entry.removal true xs) in
    subst P (sym is) (omega (arith, balanced h.entry.size h.entry.removal true t ts))

all_balanced : (v : Vault) (hs : List History) → AllByRecursion (HasTenures v) hs → sum_by (λ h. each received_size (shares_of h)) hs ≡ sum_by (λ h. each handed_size (shares_of h)) hs
all_balanced v [] all = refl
all_balanced v (h ∷ hs) all = omega (
  arith,
  sum_by-cons (λ (g : History). each received_size (shares_of g)) h hs,
  sum_by-cons (λ (g : History). each handed_size (shares_of g)) h hs,
  balanced_by v h h.tenures h.entry.marker refl all.0,
  all_balanced v hs all.1,
)

pub moved : (v : Vault) → Sound v → over_departments v (received_bytes v) ≡ over_departments v (handed_bytes v)
moved v sound = over v sound received_size ∙ all_balanced v v.histories sound.tenured ∙ sym (over v sound handed_size)

pub conserved : (v : Vault) → Sound v → over_departments v (admitted_bytes v) ≡ over_departments v (held_bytes v) + over_departments v (removed_bytes v)
conserved v sound = omega (
  arith,
  moved v sound,
  both_sums (λ d. admitted_bytes v d + received_bytes v d) (admitted_bytes v) (received_bytes v) (λ d. refl) v.departments,
  both_sums (λ d. admitted_bytes v d + received_bytes v d) (held_bytes v) (λ d. removed_bytes v d + handed_bytes v d) (one_place v) v.departments,
  both_sums (λ d. removed_bytes v d + handed_bytes v d) (removed_bytes v) (handed_bytes v) (λ d. refl) v.departments,
)
