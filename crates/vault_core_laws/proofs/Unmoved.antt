-- As long as nothing moved, no department received bytes or handed any over.
use Rattle.std.proofs.Common.{◌≡◌, ℕ, ◌+◌, List, [], ◌∷◌, true, false, Option, refl, arith}
use Rattle.std.specs.Prelude.{if◌then◌else◌, sum_by}
use Rattle.std.specs.List.{AllByRecursion}
use Rattle.std.specs.Str.{bytes_eq}
use Rattle.std.proofs.lemmas.List.Sums.{sum_by-append}
use Rattle.vault_base.specs.Days.{day}
use Rattle.vault_tally.specs.Row.{Item, handed_size, received_size}
use Rattle.vault_core_model.specs.declared.change.Change.{Change}
use Rattle.vault_core_model.specs.declared.change.Change.TheVariants.{AddDept, AddCaller, CloseCaller, AddBucket, MoveBucket, SetDefault, SetRules, Admit, AddSetting, Remove}
use Rattle.vault_core_model.specs.declared.records.History.{History}
use Rattle.vault_core_model.specs.declared.records.Removal.{Removal}
use Rattle.vault_core_model.specs.declared.records.Tenure.{Tenure}
use Rattle.vault_core_model.specs.Change.{changed}
use Rattle.vault_core_model.specs.Vault.{Vault}
use Rattle.vault_core_model.specs.Sound.{FollowOn, Sound, end_of}
use Rattle.vault_core_model.specs.Totals.{Share, admitted_bytes, handed_bytes, held_bytes, items_by, items_in, received_bytes, removal_day, removed_bytes, shares_from, shares_of}
use Rattle.vault_core_laws.proofs.Balance.{one_place, last_handed}
use Rattle.vault_core_laws.proofs.Bounds.{each_version}
use Rattle.vault_core_laws.proofs.Items.{by-cons, counted}

-- a number that is 0 of each of these tenures
abbrev AreNone : (Item → ℕ) → List Share → Type 0
AreNone f ss = AllByRecursion (λ s. f s.item ≡ 0) ss

none_counted : (f : Item → ℕ) (dept : List ℕ) (s : Share) → f s.item ≡ 0 → counted f s dept ≡ 0
none_counted f dept s none = elim (bytes_eq s.dept dept) as (λ b. (if b then f s.item else 0) ≡ 0) [ true ↦ none | false ↦ refl ]

none_by : (f : Item → ℕ) (dept : List ℕ) (ss : List Share) → AreNone f ss → sum_by f (items_by dept ss) ≡ 0
none_by f dept [] all = refl
none_by f dept (s ∷ ss) all = omega (arith, by-cons f dept s ss, none_counted f dept s all.0, none_by f dept ss all.1)

none_in : (f : Item → ℕ) (dept : List ℕ) (hs : List History) → AllByRecursion (λ h. AreNone f (shares_of h)) hs → sum_by f (items_in dept hs) ≡ 0
none_in f dept [] all = refl
none_in f dept (h ∷ hs) all = omega (arith, sum_by-append f (items_by dept (shares_of h)) (items_in dept hs), none_by f dept (shares_of h) all.0, none_in f dept hs all.1)

-- the first tenure is the last one, and no byte of it is received or handed over
only : (f : Item → ℕ) (moves end size : ℕ) (r : Option Removal) (t : Tenure) (ts : List Tenure) → moves ≡ 0
    → ((e : Option ℕ) (from : ℕ) → f (record { size = size; first = true; from = from; ended = e; last = true }) ≡ 0)
    → FollowOn moves end t ts → AreNone f (shares_from size r true (t ∷ ts))
only f moves end size r t [] unmoved none on = (none (removal_day r) (day t.from), tt)
only f moves end size r t (u ∷ us) unmoved none on = absurd (omega (arith, unmoved, on.0, on.1))

none_of : (v : Vault) (dept : List ℕ) (f : Item → ℕ) → ((size : ℕ) (e : Option ℕ) (from : ℕ) → f (record { size = size; first = true; from = from; ended = e; last = true }) ≡ 0) → Sound v → v.moves ≡ 0 → sum_by f (items_in dept v.histories) ≡ 0
none_of v dept f none sound unmoved =
    none_in f dept v.histories
    (each_version v (AreNone f) tt (λ size r t ts by on. only f v.moves (end_of v.last r) size r t ts unmoved (none size) on) v.histories sound.in_time sound.tenured)

pub none_received : (v : Vault) (dept : List ℕ) → Sound v → v.moves ≡ 0 → received_bytes v dept ≡ 0
none_received v dept = none_of v dept received_size (λ size e from. refl)

pub none_handed : (v : Vault) (dept : List ℕ) → Sound v → v.moves ≡ 0 → handed_bytes v dept ≡ 0
none_handed v dept = none_of v dept handed_size (λ size e from. last_handed e size)

pub all_stays : (v : Vault) (dept : List ℕ) → Sound v → v.moves ≡ 0 → admitted_bytes v dept ≡ held_bytes v dept + removed_bytes v dept
all_stays v dept sound unmoved = omega (arith, one_place v dept, none_received v dept sound unmoved, none_handed v dept sound unmoved)

-- no change but a bucket's move counts as one
pub moves-changed : (v : Vault) (t : ℕ) (c : Change) → ((name dept : List ℕ) → c ≡ MoveBucket name dept → ⊥) → (changed v t c).moves ≡ v.moves
moves-changed v t (AddDept name) other = refl
moves-changed v t (AddCaller c) other = refl
moves-changed v t (CloseCaller name) other = refl
moves-changed v t (AddBucket name dept) other = refl
moves-changed v t (MoveBucket name dept) other = absurd (other name dept refl)
moves-changed v t (SetDefault name default) other = refl
moves-changed v t (SetRules name rules) other = refl
moves-changed v t (Admit a) other = refl
moves-changed v t (AddSetting id s) other = refl
moves-changed v t (Remove id r) other = refl
