-- The tenures of histories follow one another.
use Rattle.std.proofs.Common.{◌≡◌, ◌≤◌, ◌<◌, ◌+◌, inl, inr, ℕ, List, [], ◌∷◌, ◌++◌, map, flat_map, Bool, true, false, not, Option, Some, None, option_map, IfSome, refl, sym, subst, ◌∙◌, arith}
use Rattle.std.specs.List.{AllByRecursion}
use Rattle.std.specs.Str.{bytes_eq}
use Rattle.sqlite_keyed.proofs.ListLemmas.{map-map, map-flat_map, flat_map_same_on}
use Rattle.vault_core_model.specs.declared.records.Bucket.{Bucket}
use Rattle.vault_core_model.specs.declared.records.Entry.{Entry}
use Rattle.vault_core_model.specs.declared.records.History.{History}
use Rattle.vault_core_model.specs.declared.records.Removal.{Removal}
use Rattle.vault_core_model.specs.declared.records.Tenure.{Tenure}
use Rattle.vault_core_model.specs.Sound.{AreTenures, FollowOn, IsWithBucket, end_of, last_tenure}
use Rattle.vault_core_model.specs.Vault.{Vault, bucket_in}
use Rattle.vault_audit_model.specs.Limits.{IsBucket, IsEntry, IsTenure}
use Rattle.vault_audit_model.specs.Relations.{AreNumbered, AreTenuresInLimits, IsTenured, IsTenuredAs}
use Rattle.vault_audit_model.specs.Spells.{entries_in, tenures_in}
use Rattle.vault_audit_entries.proofs.SettingHistoryLemmas.{higher}
use Rattle.vault_audit_tenures.specs.declared.owned_tenures.OwnedTenure.{OwnedTenure}
use Rattle.vault_audit_tenures.specs.OwnedTenures.{owned_in, IsOwned}
use Rattle.vault_audit_tenures.specs.Chain.{IsTimely, EndsAs, IsLast, Follows, Fit, AreEnded}
use Rattle.vault_audit_tenures.specs.Presence.{HasSome}
use Rattle.vault_audit_tenures.proofs.ChainLemmas.{has_id, is_some_of, apart_above, skip, own, removed_of, owner_of, end_same, row_of, at}
use Rattle.vault_audit_tenures.proofs.HistoryLemmas.{set_more}
use Rattle.vault_audit_tenures.proofs.OwnedEntryLemmas.{first_holds, dept_named, removed_by}
use Rattle.vault_core_laws.proofs.Tenures.{reaches}

-- ---- limits

is_owned : (external : Bool) (bs : List Bucket) (e : Entry) (t : Tenure) → AllByRecursion IsBucket bs → IsEntry external e → IsTenure t → IsOwned (owned_in bs e t)
is_owned external bs e t all is limits = record {
  id = is.id;
  tenure = limits;
  admitted = is.admitted;
  removed = removed_by e.removal is.removal;
  owner = dept_named (bucket_in bs e.bucket) (first_holds IsBucket (λ b. bytes_eq b.name e.bucket) bs all);
}

-- ---- the tenures of histories, beside their entries

abbrev pub owned_of : Vault → History → List OwnedTenure
owned_of v h = map (owned_in v.buckets h.entry) h.tenures

abbrev pub all_owned : Vault → List History → List OwnedTenure
all_owned v hs = flat_map (owned_of v) hs

pub rows_owned : (v : Vault) (hs : List History) → map row_of (all_owned v hs) ≡ flat_map tenures_in hs
rows_owned v hs = map-flat_map row_of (owned_of v) hs ∙ flat_map_same_on _ tenures_in (λ h. map-map row_of (owned_in v.buckets h.entry) h.tenures) hs

-- ---- of one version

module _ (external : Bool) (v : Vault) (buckets : AllByRecursion IsBucket v.buckets) where
  abbrev pub Ends : Option OwnedTenure → List OwnedTenure → Type 0
  Ends before ts = Fit (at v.moves v.last before) ts × AreEnded (at v.moves v.last before) ts

  module _ (e : Entry) (is : IsEntry external e) (rest : List OwnedTenure) (on : (s : OwnedTenure) → s.id ≡ e.id → IsLast s → Ends (Some s) rest) where
    abbrev one : Tenure → OwnedTenure
    one = owned_in v.buckets e

    timely : (t : Tenure) (ts : List Tenure) → t.number ≤ v.moves → FollowOn v.moves (end_of v.last e.removal) t ts → IsTimely v.moves v.last (one t)
    timely t ts few follow = (few, subst (λ k. t.from ≤ k) (sym (end_same v.last e.removal)) (reaches v.moves (end_of v.last e.removal) t ts follow))

    run_fits : (t : Tenure) (ts : List Tenure) → FollowOn v.moves (end_of v.last e.removal) t ts → AllByRecursion IsTenure ts → EndsAs (removed_of e) (owner_of v.buckets e) (last_tenure (t ∷ ts)) → Ends (Some (one t)) (map one ts ++ rest)
    run_fits t [] follow limits ends = on (one t) refl ends
    run_fits t (u ∷ us) follow limits ends =
        let more = run_fits u us follow.4 limits.1 ends in
        (((is_owned external v.buckets e u buckets is limits.0, timely u us follow.1 follow.4, inl (refl, (follow.0, follow.2, follow.3))), more.0), more.1)

    follows_first : (before : Option OwnedTenure) (t : Tenure) → IfSome before (λ s. (s.id < e.id) × IsLast s) → t.number ≡ 0 → t.from ≡ e.admitted → Follows before (one t)
    follows_first None t ended zero_th from = (zero_th, from)
    follows_first (Some s) t ended zero_th from = inr (ended.0, (zero_th, from), ended.1)

    version_fits : (before : Option OwnedTenure) (ts : List Tenure) → IfSome before (λ s. (s.id < e.id) × IsLast s) → AreTenures v e ts → AllByRecursion IsTenure ts → EndsAs (removed_of e) (owner_of v.buckets e) (last_tenure ts) → Ends before (map one ts ++ rest)
    version_fits before [] ended are limits ends = absurd are
    version_fits before (t ∷ ts) ended are limits ends =
        let more = run_fits t ts are.2 limits.1 ends in
        (((is_owned external v.buckets e t buckets is limits.0, timely t ts (omega (arith, are.0)) are.2, follows_first before t ended are.0 are.1), more.0), more.1)

  with_owner : (o : Option Removal) (h : History) → IsWithBucket v o h → EndsAs (option_map (λ (r : Removal). r.at) o) (owner_of v.buckets h.entry) (last_tenure h.tenures)
  with_owner None h ends = ends
  with_owner (Some r) h ends = tt

  -- ---- of all

  at_end : (before : Option OwnedTenure) (n : ℕ) → IfSome before (λ s. (s.id < n) × IsLast s) → Ends before []
  at_end None n ended = (tt, tt)
  at_end (Some s) n ended = (tt, ended.1)

  raised : (before : Option OwnedTenure) (m n : ℕ) → m ≤ n → IfSome before (λ s. (s.id < m) × IsLast s) → IfSome before (λ s. (s.id < n) × IsLast s)
  raised None m n low ended = tt
  raised (Some s) m n low ended = let up = ended.0 in (omega (arith, low, up), ended.1)

  history_fits : (marker : Bool) (h : History) (rest : List OwnedTenure) (before : Option OwnedTenure) → IsEntry external h.entry → AreTenuresInLimits h → IsTenuredAs marker v h → IfSome before (λ s. (s.id < h.entry.id) × IsLast s)
      → ((s : OwnedTenure) → s.id ≡ h.entry.id → IsLast s → Ends (Some s) rest) → Ends before rest → Ends before (owned_of v h ++ rest)
  history_fits true h rest before is limits none ended on same = subst (λ ts. Ends before (map (owned_in v.buckets h.entry) ts ++ rest)) (sym none) same
  history_fits false h rest before is limits had ended on same = version_fits h.entry is rest on before h.tenures ended had.0 limits (with_owner h.entry.removal h had.1)

  pub all_fit : (n low : ℕ) (before : Option OwnedTenure) (hs : List History) → IfSome before (λ s. (s.id < n) × IsLast s) → AreNumbered external n low (entries_in hs) → AllByRecursion AreTenuresInLimits hs → AllByRecursion (IsTenured v) hs → Ends before (all_owned v hs)
  all_fit n low before [] ended are limits had = at_end before n ended
  all_fit n low before (h ∷ hs) ended are limits had =
      let id : h.entry.id ≡ n = are.0.1.0 in
      history_fits h.entry.marker h (all_owned v hs) before are.0.0 limits.0 had.0 (raised before n h.entry.id (omega (arith, id)) ended)
      (λ s same last. all_fit (n + 1) h.entry.admitted (Some s) hs (omega (arith, same, id), last) are.1 limits.1 had.1)
      (all_fit (n + 1) h.entry.admitted before hs (raised before n (n + 1) (omega arith) ended) are.1 limits.1 had.1)

-- ---- the versions have them

none_later : (external : Bool) (i n low : ℕ) (hs : List History) → i < n → AreNumbered external n low (entries_in hs) → has_id i (flat_map tenures_in hs) ≡ false
none_later external i n low [] below are = refl
none_later external i n low (h ∷ hs) below are =
    skip i h.entry.id h.tenures (flat_map tenures_in hs) (apart_above h.entry.id i (let id = are.0.1.0 in omega (arith, below, id))) ∙ none_later external i (n + 1) h.entry.admitted hs (omega (arith, below)) are.1

some_had : (v : Vault) (marker : Bool) (h : History) → IsTenuredAs marker v h → is_some_of h.tenures ≡ not marker
some_had v true h none = rw none refl
some_had v false h had = some h.tenures had.0
  where
    some : (ts : List Tenure) → AreTenures v h.entry ts → is_some_of ts ≡ true
    some [] are = absurd are
    some (t ∷ ts) are = refl

pub all_set : (external : Bool) (v : Vault) (n low : ℕ) (hs : List History) → AreNumbered external n low (entries_in hs) → AllByRecursion (IsTenured v) hs → AllByRecursion (HasSome (flat_map tenures_in hs)) (entries_in hs)
all_set external v n low [] are had = tt
all_set external v n low (h ∷ hs) are had =
    let id : h.entry.id ≡ n = are.0.1.0 in
    let rest = flat_map tenures_in hs in
    let none : has_id h.entry.id rest ≡ false = none_later external h.entry.id (n + 1) h.entry.admitted hs (omega (arith, id)) are.1 in
    let up = subst (λ i. AllByRecursion (λ e. i + 1 ≤ e.id) (entries_in hs)) (sym id) (higher external (n + 1) h.entry.admitted (entries_in hs) are.1) in
    (own h.entry.id h.tenures rest none ∙ some_had v h.entry.marker h had.0, set_more h.entry.id h.tenures rest (entries_in hs) up (all_set external v (n + 1) h.entry.admitted hs are.1 had.1))
