-- The tenures that follow one another are those of histories.
use Rattle.std.proofs.Common.{◌≡◌, ◌≤◌, ◌<◌, ◌+◌, ◌⊎◌, inl, inr, ℕ, zero, suc, List, [], ◌∷◌, ◌++◌, length, map, flat_map, Bool, true, false, not, Option, Some, None, option_map, refl, sym, ap, ap₂, subst, ◌∙◌, arith}
use Rattle.std.specs.List.{AllByRecursion}
use Rattle.vault_core_model.specs.declared.records.Entry.{Entry}
use Rattle.vault_core_model.specs.declared.records.History.{History}
use Rattle.vault_core_model.specs.declared.records.Removal.{Removal}
use Rattle.vault_core_model.specs.declared.records.Tenure.{Tenure}
use Rattle.vault_core_model.specs.Sound.{AreTenures, FollowOn, IsWithBucket, last_tenure}
use Rattle.vault_core_model.specs.Vault.{Vault}
use Rattle.vault_audit_model.specs.declared.rows.TenureRow.{TenureRow}
use Rattle.vault_audit_model.specs.Limits.{IsTenure}
use Rattle.vault_audit_model.specs.Relations.{AreNumbered, AreTenuresInLimits, IsTenured, IsTenuredAs}
use Rattle.vault_audit_model.specs.Spells.{entries_in, tenures_in}
use Rattle.vault_audit_model.proofs.ListLemmas.{all_as}
use Rattle.vault_audit_entries.proofs.SettingHistoryLemmas.{higher}
use Rattle.vault_audit_tenures.specs.declared.owned_tenures.OwnedTenure.{OwnedTenure}
use Rattle.vault_audit_tenures.specs.Chain.{end_at, EndsAs}
use Rattle.vault_audit_tenures.specs.Presence.{HasSome}
use Rattle.vault_audit_tenures.proofs.ChainLemmas.{has_id, run_of, apart, alike, skip, none_above, found_among, removed_of, owner_of, IsOf, IsOfOne, end_same, row_of, Anew, ids_above, Cut, cut}

below_or : (a b : ℕ) → a < b → (b ≡ a + 1) ⊎ (a + 1 < b)
below_or a zero low = absurd (omega (arith, low))
below_or zero (suc zero) low = inl refl
below_or zero (suc (suc b)) low = inr (omega arith)
below_or (suc a) (suc b) low = up (below_or a b (omega (arith, low)))
  where
    up : (b ≡ a + 1) ⊎ (a + 1 < b) → (suc b ≡ suc a + 1) ⊎ (suc a + 1 < suc b)
    up (inl same) = inl (omega (arith, same))
    up (inr less) = inr (omega (arith, less))

-- what is the same for the entries after one
set_less : (id : ℕ) (run : List Tenure) (rest : List TenureRow) (es : List Entry) → AllByRecursion (λ e. id + 1 ≤ e.id) es → AllByRecursion (HasSome (run_of id run ++ rest)) es → AllByRecursion (HasSome rest) es
set_less id run rest [] up all = tt
set_less id run rest (e ∷ es) up all = (sym (skip e.id id run rest (apart id e.id (omega (arith, up.0)))) ∙ all.0, set_less id run rest es up.1 all.1)

pub set_more : (id : ℕ) (run : List Tenure) (rest : List TenureRow) (es : List Entry) → AllByRecursion (λ e. id + 1 ≤ e.id) es → AllByRecursion (HasSome rest) es → AllByRecursion (HasSome (run_of id run ++ rest)) es
set_more id run rest [] up all = tt
set_more id run rest (e ∷ es) up all = (skip e.id id run rest (apart id e.id (omega (arith, up.0))) ∙ all.0, set_more id run rest es up.1 all.1)

after_run : (P : TenureRow → Type 0) (xs ys : List TenureRow) → AllByRecursion P (xs ++ ys) → AllByRecursion P ys
after_run P [] ys all = all
after_run P (x ∷ xs) ys all = after_run P xs ys all.1

shifted : (m n : ℕ) (ts : List TenureRow) → m ≡ n → AllByRecursion (λ t. t.id < m) ts → AllByRecursion (λ t. t.id < n) ts
shifted m n ts same all = subst (λ k. AllByRecursion (λ t. t.id < k) ts) same all

abbrev with_tenures : Entry → List Tenure → History
with_tenures e ts = record { entry = e; content = None; settings = []; tenures = ts }

-- ---- the other histories of a vault don't matter

module _ (v : Vault) (gs hs : List History) where
  abbrev one : Vault
  one = record v { histories = gs }

  abbrev other : Vault
  other = record v { histories = hs }

  same_chain : (e : Entry) (ts : List Tenure) → AreTenures one e ts → AreTenures other e ts
  same_chain e [] are = are
  same_chain e (t ∷ ts) are = are

  same_bucket : (o : Option Removal) (h : History) → IsWithBucket one o h → IsWithBucket other o h
  same_bucket None h is = is
  same_bucket (Some r) h is = is

  same_as : (marker : Bool) (h : History) → IsTenuredAs marker one h → IsTenuredAs marker other h
  same_as true h is = is
  same_as false h is = (same_chain h.entry h.tenures is.0, same_bucket h.entry.removal h is.1)

  pub tenured_alike : (xs : List History) → AllByRecursion (IsTenured one) xs → AllByRecursion (IsTenured other) xs
  tenured_alike xs all = all_as (λ (h : History) (is : IsTenured one h). same_as h.entry.marker h is) xs all

-- ---- to histories

module _ (v : Vault) where
  with_bucket : (o : Option Removal) (h : History) → EndsAs (option_map (λ (r : Removal). r.at) o) (owner_of v.buckets h.entry) (last_tenure h.tenures) → IsWithBucket v o h
  with_bucket None h ends = ends
  with_bucket (Some r) h ends = tt

  none_had : (marker : Bool) (e : Entry) → false ≡ not marker → IsTenuredAs marker v (with_tenures e [])
  none_had true e some = refl
  none_had false e some = absurd cc

  some_had : (marker : Bool) (e : Entry) (ts : List Tenure) → true ≡ not marker → AreTenures v e ts → IsWithBucket v e.removal (with_tenures e ts) → IsTenuredAs marker v (with_tenures e ts)
  some_had true e ts some are bucket = absurd cc
  some_had false e ts some are bucket = (are, bucket)

  pub record Made (es : List Entry) (ts : List OwnedTenure) : Type 0 where
    pub histories : List History
    pub entries : entries_in histories ≡ es
    pub rows : flat_map tenures_in histories ≡ map row_of ts
    pub limits : AllByRecursion AreTenuresInLimits histories
    pub tenured : AllByRecursion (IsTenured v) histories

  without : (e : Entry) (es : List Entry) (ts : List OwnedTenure) → false ≡ not e.marker → Made es ts → Made (e ∷ es) ts
  without e es ts some later = record {
    histories = with_tenures e [] ∷ later.histories;
    entries = ap (λ (xs : List Entry). e ∷ xs) later.entries;
    rows = later.rows;
    limits = (tt, later.limits);
    tenured = (none_had e.marker e some, later.tenured);
  }

  is_chain : (e : Entry) (t : OwnedTenure) (run : List Tenure) → t.tenure.number ≡ 0 → t.tenure.from ≡ t.admitted → IsOf v.buckets t (Some e) → FollowOn v.moves (end_at v.last t.removed) t.tenure run → AreTenures v e (t.tenure ∷ run)
  is_chain e t run zero_th from is follow =
      (zero_th, from ∙ is.0, subst (λ k. FollowOn v.moves k t.tenure run) (end_same v.last e.removal) (subst (λ o. FollowOn v.moves (end_at v.last o) t.tenure run) is.1 follow))

  is_held : (e : Entry) (t : OwnedTenure) (run : List Tenure) → IsOf v.buckets t (Some e) → EndsAs t.removed t.owner (last_tenure (t.tenure ∷ run)) → IsWithBucket v e.removal (with_tenures e (t.tenure ∷ run))
  is_held e t run is ends =
      with_bucket e.removal (with_tenures e (t.tenure ∷ run))
      (subst (λ o. EndsAs (removed_of e) o (last_tenure (t.tenure ∷ run))) is.2 (subst (λ o. EndsAs o t.owner (last_tenure (t.tenure ∷ run))) is.1 ends))

  with_run : (e : Entry) (es : List Entry) (t : OwnedTenure) (ts : List OwnedTenure) → t.id ≡ e.id → IsTenure t.tenure → t.tenure.number ≡ 0 → t.tenure.from ≡ t.admitted → IsOf v.buckets t (Some e) → true ≡ not e.marker
      → (part : Cut v.moves v.last t ts) → Made es part.rest → Made (e ∷ es) (t ∷ ts)
  with_run e es t ts id limits zero_th from is some part later = record {
    histories = with_tenures e (t.tenure ∷ part.run) ∷ later.histories;
    entries = ap (λ (xs : List Entry). e ∷ xs) later.entries;
    rows = ap₂ (λ (i : ℕ) (xs : List TenureRow). run_of i (t.tenure ∷ part.run) ++ xs) (sym id) later.rows ∙ ap (λ (xs : List TenureRow). row_of t ∷ xs) (sym part.whole);
    limits = ((limits, part.are), later.limits);
    tenured = (some_had e.marker e (t.tenure ∷ part.run) some (is_chain e t part.run zero_th from is part.follow) (is_held e t part.run is part.ends), later.tenured);
  }

  module _ (external : Bool) (all : List Entry) where
    pub make : (n low : ℕ) (es : List Entry) (ts : List OwnedTenure) → AreNumbered external (n + 1) low es → Anew v.moves v.last n ts → AllByRecursion (IsOfOne v.buckets all) ts → AllByRecursion (λ e. found_among all e.id ≡ Some e) es
        → AllByRecursion (HasSome (map row_of ts)) es → AllByRecursion (λ t. t.id < (n + 1) + length es) (map row_of ts) → Made es ts
    make n low [] [] are new of found set ids = record { histories = []; entries = refl; rows = refl; limits = tt; tenured = tt }
    make n low [] (t ∷ ts) are new of found set ids = absurd (let up = new.0 in let down = ids.0 in omega (arith, up, down))
    make n low (e ∷ es) [] are new of found set ids = without e es [] set.0 (make (n + 1) e.admitted es [] are.1 tt tt found.1 set.1 tt)
    make n low (e ∷ es) (t ∷ ts) are new of found set ids =
        which (below_or n t.id new.0) (λ xs begins owned some within. make (n + 1) e.admitted es xs are.1 begins owned found.1 some within)
      where
        id : e.id ≡ n + 1
        id = are.0.1.0

        which : (t.id ≡ n + 1) ⊎ (n + 1 < t.id)
            → ((xs : List OwnedTenure) → Anew v.moves v.last (n + 1) xs → AllByRecursion (IsOfOne v.buckets all) xs → AllByRecursion (HasSome (map row_of xs)) es → AllByRecursion (λ x. x.id < (n + 1 + 1) + length es) (map row_of xs) → Made es xs)
            → Made (e ∷ es) (t ∷ ts)
        which (inr up) on =
            let next : Anew v.moves v.last (n + 1) (t ∷ ts) = (up, new.1, new.2, new.3) in
            let none : has_id e.id (map row_of (t ∷ ts)) ≡ false = subst (λ i. has_id i (map row_of (t ∷ ts)) ≡ false) (sym id) (none_above (n + 1) (map row_of (t ∷ ts)) (ids_above v.moves v.last (n + 1) (t ∷ ts) next)) in
            without e es (t ∷ ts) (sym none ∙ set.0) (on (t ∷ ts) next of set.1 (shifted _ _ (map row_of (t ∷ ts)) (omega arith) ids))
        which (inl same) on =
            let mine : t.id ≡ e.id = same ∙ sym id in
            let is : IsOf v.buckets t (Some e) = subst (IsOf v.buckets t) (ap (found_among all) mine ∙ found.0) of.0 in
            let some : has_id e.id (map row_of (t ∷ ts)) ≡ true = rw (alike t.id e.id mine) refl in
            let those = cut v.moves v.last v.buckets all t ts new.1.1 new.2 new.3 of.0 of.1 in
            let part = those.cut in
            let whole : map row_of (t ∷ ts) ≡ run_of t.id (t.tenure ∷ part.run) ++ map row_of part.rest = ap (λ (xs : List TenureRow). row_of t ∷ xs) part.whole in
            let up = subst (λ i. AllByRecursion (λ x. i + 1 ≤ x.id) es) (sym same) (higher external (n + 1 + 1) e.admitted es are.1) in
            let others = set_less t.id (t.tenure ∷ part.run) (map row_of part.rest) es up (subst (λ xs. AllByRecursion (HasSome xs) es) whole set.1) in
            let lower = after_run (λ x. x.id < (n + 1) + length (e ∷ es)) (run_of t.id (t.tenure ∷ part.run)) (map row_of part.rest) (subst (AllByRecursion (λ x. x.id < (n + 1) + length (e ∷ es))) whole ids) in
            let begins = subst (λ i. Anew v.moves v.last i part.rest) same part.new in
            with_run e es t ts mine new.1.0.tenure new.1.2.0 new.1.2.1 is (sym some ∙ set.0) part (on part.rest begins those.rest others (shifted _ _ (map row_of part.rest) (omega arith) lower))
