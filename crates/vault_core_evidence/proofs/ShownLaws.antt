-- In a lawful vault no entry shows a moment after the last one.
use Rattle.std.proofs.Common.{◌≡◌, ℕ, ◌≤◌, List, [], ◌∷◌, ◌++◌, Bool, true, false, Option, Some, None, sym, subst, arith, map}
use Rattle.std.specs.Prelude.{max, fold, option_map}
use Rattle.std.specs.List.{AllByRecursion}
use Rattle.std.specs.Option.{option_to_list}
use Rattle.std.proofs.Math.Nat.{max-le}
use Rattle.vault_lock.specs.declared.lock.Lock.{Lock}
use Rattle.vault_core_model.specs.declared.records.Author.{Author}
use Rattle.vault_core_model.specs.declared.records.Entry.{Entry}
use Rattle.vault_core_model.specs.declared.records.History.{History}
use Rattle.vault_core_model.specs.declared.records.Removal.{Removal}
use Rattle.vault_core_model.specs.declared.records.Setting.{Setting}
use Rattle.vault_core_model.specs.declared.records.Tenure.{Tenure}
use Rattle.vault_core_model.specs.Sound.{AreTenures, FollowOn, HasTenures, HasTenuresAs, IsInTime, LiesBetween, Sound, end_of}
use Rattle.vault_core_model.specs.Vault.{Vault, last_lock}
use Rattle.vault_core_laws.proofs.Soundness.{admitted_by}
use Rattle.vault_core_laws.proofs.Tenures.{end-by}
use Rattle.vault_core_evidence.specs.Lawful.{AreLawful, AreLawfulAfter, IsLawful, IsLawfulEnd, Lawful, last_at}
use Rattle.vault_core_evidence.specs.Shown.{last_shown, later_moments, shown_by}

abbrev AreBy : ℕ → List ℕ → Type 0
AreBy k ts = AllByRecursion (λ t. t ≤ k) ts

fold_by : (m k : ℕ) (ts : List ℕ) → m ≤ k → AreBy k ts → fold max m ts ≤ k
fold_by m k [] le all = le
fold_by m k (t ∷ ts) le all = fold_by (max m t) k ts (max-le le all.0) all.1

both_by : (k : ℕ) (ss ts : List ℕ) → AreBy k ss → AreBy k ts → AreBy k (ss ++ ts)
both_by k [] ts one other = other
both_by k (s ∷ ss) ts one other = (one.0, both_by k ss ts one.1 other)

-- ---- settings

later_by : (v : Vault) (from k : ℕ) (s : Setting) (ss : List Setting) → AreLawfulAfter v s ss → last_at from (s ∷ ss) ≤ k → AreBy k (map (λ (x : Setting). x.at) (s ∷ ss))
later_by v from k s [] after le = (le, tt)
later_by v from k s (n ∷ ns) after le =
    let rest = later_by v from k n ns after.1 le in
    (omega (arith, after.0.in_order, rest.0), rest)

settings_by : (v : Vault) (admitted k : ℕ) (by : Author) (ss : List Setting) → AreLawful v admitted by ss → last_at admitted ss ≤ k → AreBy k (map (λ (x : Setting). x.at) ss)
settings_by v admitted k by [] lawful le = tt
settings_by v admitted k by (s ∷ ss) lawful le = later_by v admitted k s ss lawful.1 le

ends_by : (v : Vault) (from : ℕ) (lock : Lock) (o : Option Removal) → IsLawfulEnd v from lock o → from ≤ v.last
ends_by v from lock None end = end
ends_by v from lock (Some r) end = omega (arith, end.0, end.1)

-- ---- tenures

follow_by : (moves end k : ℕ) (t : Tenure) (ts : List Tenure) → FollowOn moves end t ts → end ≤ k → AreBy k (map (λ (x : Tenure). x.from) (t ∷ ts))
follow_by moves end k t [] on le = (omega (arith, on, le), tt)
follow_by moves end k t (u ∷ us) on le =
    let rest = follow_by moves end k u us on.4 le in
    (omega (arith, on.2, rest.0), rest)

are_by : (v : Vault) (e : Entry) (ts : List Tenure) → AreTenures v e ts → end_of v.last e.removal ≤ v.last → AreBy v.last (map (λ (x : Tenure). x.from) ts)
are_by v e [] are le = tt
are_by v e (t ∷ ts) are le = follow_by v.moves (end_of v.last e.removal) v.last t ts are.2 le

tenures_by : (b : Bool) (v : Vault) (h : History) → HasTenuresAs b v h → end_of v.last h.entry.removal ≤ v.last → AreBy v.last (map (λ (x : Tenure). x.from) h.tenures)
tenures_by true v h has le = subst (λ (ts : List Tenure). AreBy v.last (map (λ (x : Tenure). x.from) ts)) (sym has) tt
tenures_by false v h has le = are_by v h.entry h.tenures has.0 le

-- ---- the removal, and all of it

removal_by : (admitted last : ℕ) (o : Option Removal) → LiesBetween admitted last o → AreBy last (option_to_list (option_map (λ r. r.at) o))
removal_by admitted last None lies = tt
removal_by admitted last (Some r) lies = (lies.1, tt)

shown_by_last : (v : Vault) (h : History) → IsLawful v h → IsInTime v.last h → HasTenures v h → h.entry.admitted ≤ v.last → shown_by h.entry h.settings h.tenures ≤ v.last
shown_by_last v h lawful timely has admitted =
    let set = ends_by v (last_at h.entry.admitted h.settings) (last_lock h.settings) h.entry.removal lawful.end in
    let end = end-by h.entry.admitted v.last h.entry.removal timely in
    fold_by h.entry.admitted v.last (later_moments h.entry h.settings h.tenures) admitted
    (both_by v.last (map (λ (x : Setting). x.at) h.settings) (map (λ (x : Tenure). x.from) h.tenures ++ option_to_list (option_map (λ r. r.at) h.entry.removal))
    (settings_by v h.entry.admitted v.last h.entry.by h.settings lawful.settings set)
    (both_by v.last (map (λ (x : Tenure). x.from) h.tenures) (option_to_list (option_map (λ r. r.at) h.entry.removal))
    (tenures_by h.entry.marker v h has end) (removal_by h.entry.admitted v.last h.entry.removal timely)))

all_by : (v : Vault) (hs : List History) → AllByRecursion (IsLawful v) hs → AllByRecursion (IsInTime v.last) hs → AllByRecursion (HasTenures v) hs → AllByRecursion (λ h. h.entry.admitted ≤ v.last) hs → AreBy v.last (map (λ (h : History). shown_by h.entry h.settings h.tenures) hs)
all_by v [] lawful timely has admitted = tt
all_by v (h ∷ hs) lawful timely has admitted =
    (shown_by_last v h lawful.0 timely.0 has.0 admitted.0, all_by v hs lawful.1 timely.1 has.1 admitted.1)

pub shown-last : (v : Vault) → Sound v → Lawful v → last_shown v ≤ v.last
shown-last v sound lawful =
    fold_by 0 v.last (map (λ (h : History). shown_by h.entry h.settings h.tenures) v.histories) (omega arith)
    (all_by v v.histories lawful sound.in_time sound.tenured (admitted_by 0 v.last v.histories sound.order))
