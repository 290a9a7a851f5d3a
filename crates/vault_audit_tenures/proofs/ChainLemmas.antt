-- Tenures that come one after the other are those of histories, and those of histories come one after the other.
use Rattle.std.proofs.Common.{◌≡◌, ◌≤◌, ◌<◌, ◌+◌, ◌==◌, inl, inr, ℕ, List, [], ◌∷◌, ◌++◌, length, map, find, cond, Bool, true, false, Option, Some, None, option_map, refl, sym, ap, ap₂, subst, ◌∙◌, IsTrue, arith}
use Rattle.std.specs.List.{AllByRecursion, list_any}
use Rattle.std.proofs.lemmas.Bool.Decides.{nat_tests}
use Rattle.vault_base.specs.Name.{is_version_id}
use Rattle.vault_core_model.specs.declared.records.Bucket.{Bucket}
use Rattle.vault_core_model.specs.declared.records.Entry.{Entry}
use Rattle.vault_core_model.specs.declared.records.Removal.{Removal}
use Rattle.vault_core_model.specs.declared.records.Tenure.{Tenure}
use Rattle.vault_core_model.specs.Sound.{FollowOn, end_of, last_tenure}
use Rattle.vault_core_model.specs.Vault.{config_in}
use Rattle.vault_audit_model.specs.declared.rows.TenureRow.{TenureRow}
use Rattle.vault_audit_model.specs.Limits.{IsTenure}
use Rattle.vault_audit_model.specs.Relations.{AreNumbered}
use Rattle.vault_audit_model.specs.Spells.{tenure_at}
use Rattle.vault_audit_entries.proofs.SettingHistoryLemmas.{higher}
use Rattle.vault_audit_tenures.specs.declared.owned_tenures.OwnedTenure.{OwnedTenure}
use Rattle.vault_audit_tenures.specs.declared.chain.TenurePass.{TenurePass}
use Rattle.vault_audit_tenures.specs.OwnedTenures.{IsOwned}
use Rattle.vault_audit_tenures.specs.Chain.{end_at, IsTimely, IsFirst, EndsAs, Fit, AreEnded}

-- ---- which ids tenures have

abbrev pub has_id : ℕ → List TenureRow → Bool
has_id i ts = list_any (λ t. t.id == i) ts

abbrev pub run_of : ℕ → List Tenure → List TenureRow
run_of id ts = map (tenure_at id) ts

abbrev pub is_some_of : List Tenure → Bool
is_some_of [] = false
is_some_of (t ∷ ts) = true

pub apart : (a b : ℕ) → a < b → (a == b) ≡ false
apart a b low = grind (arith, nat_tests)

pub apart_above : (a b : ℕ) → b < a → (a == b) ≡ false
apart_above a b low = grind (arith, nat_tests)

pub alike : (a b : ℕ) → a ≡ b → (a == b) ≡ true
alike a b same = grind (arith, nat_tests)

-- those of another version aren't of the id
pub skip : (i id : ℕ) (ts : List Tenure) (rest : List TenureRow) → (id == i) ≡ false → has_id i (run_of id ts ++ rest) ≡ has_id i rest
skip i id [] rest other = refl
skip i id (t ∷ ts) rest other = rw other (skip i id ts rest other)

pub own : (id : ℕ) (ts : List Tenure) (rest : List TenureRow) → has_id id rest ≡ false → has_id id (run_of id ts ++ rest) ≡ is_some_of ts
own id [] rest none = none
own id (t ∷ ts) rest none = rw (alike id id refl) refl

pub none_above : (i : ℕ) (ts : List TenureRow) → AllByRecursion (λ t. i < t.id) ts → has_id i ts ≡ false
none_above i [] all = refl
none_above i (t ∷ ts) all = rw (apart_above t.id i all.0) (none_above i ts all.1)

-- ---- entries by their ids

abbrev pub found_among : List Entry → ℕ → Option Entry
found_among es i = find (λ e. e.id == i) es

pub each_found : (external : Bool) (n low : ℕ) (es : List Entry) → AreNumbered external n low es → AllByRecursion (λ e. found_among es e.id ≡ Some e) es
each_found external n low [] are = tt
each_found external n low (e ∷ es) are =
    (rw (alike e.id e.id refl) refl, after es (higher external (n + 1) e.admitted es are.1) (each_found external (n + 1) e.admitted es are.1))
  where
    after : (xs : List Entry) → AllByRecursion (λ x. n + 1 ≤ x.id) xs → AllByRecursion (λ x. found_among es x.id ≡ Some x) xs → AllByRecursion (λ x. found_among (e ∷ es) x.id ≡ Some x) xs
    after [] up all = tt
    after (x ∷ xs) up all = (rw (apart e.id x.id (omega (arith, are.0.1.0, up.0))) all.0, after xs up.1 all.1)

abbrev pub IsGiven : Option Entry → Type 0
IsGiven None = ⊥
IsGiven (Some e) = Unit {0}

pub found_below : (external : Bool) (n low i : ℕ) (es : List Entry) → AreNumbered external n low es → IsGiven (found_among es i) → i < n + length es
found_below external n low i [] are given = absurd given
found_below external n low i (e ∷ es) are given = of (e.id == i) refl given (found_below external (n + 1) e.admitted i es are.1)
  where
    of : (b : Bool) → (e.id == i) ≡ b → IsGiven (cond b (Some e) (found_among es i)) → (IsGiven (found_among es i) → i < n + 1 + length es) → i < n + length (e ∷ es)
    of true is _ _ = let same : e.id ≡ i = grind (arith, nat_tests) in omega (arith, same, are.0.1.0)
    of false is more next = let less = next more in omega (arith, less)

-- ---- what stands beside a tenure

abbrev pub owner_of : List Bucket → Entry → Option (List ℕ)
owner_of bs e = option_map (λ c. c.dept) (config_in bs e.bucket)

abbrev pub removed_of : Entry → Option ℕ
removed_of e = option_map (λ r. r.at) e.removal

-- it is that entry's, and that of its bucket among these
abbrev pub IsOf : List Bucket → OwnedTenure → Option Entry → Type 0
IsOf bs t None = ⊥
IsOf bs t (Some e) = (t.admitted ≡ e.admitted) × (t.removed ≡ removed_of e) × (t.owner ≡ owner_of bs e)

abbrev pub IsOfOne : List Bucket → List Entry → OwnedTenure → Type 0
IsOfOne bs es t = IsOf bs t (found_among es t.id)

pub given : (bs : List Bucket) (t : OwnedTenure) (o : Option Entry) → IsOf bs t o → IsGiven o
given bs t None is = is
given bs t (Some e) is = tt

same_of : (bs : List Bucket) (s t : OwnedTenure) (o : Option Entry) → IsOf bs s o → IsOf bs t o → (t.removed ≡ s.removed) × (t.owner ≡ s.owner)
same_of bs s t None is_s is_t = absurd is_s
same_of bs s t (Some e) is_s is_t = (is_t.1 ∙ sym is_s.1, is_t.2 ∙ sym is_s.2)

same_owner : (bs : List Bucket) (es : List Entry) (s t : OwnedTenure) → t.id ≡ s.id → IsOfOne bs es s → IsOfOne bs es t → (t.removed ≡ s.removed) × (t.owner ≡ s.owner)
same_owner bs es s t same is_s is_t = same_of bs s t (found_among es s.id) is_s (subst (λ i. IsOf bs t (found_among es i)) same is_t)

pub end_same : (last : ℕ) (o : Option Removal) → end_at last (option_map (λ (r : Removal). r.at) o) ≡ end_of last o
end_same last None = refl
end_same last (Some r) = refl

-- the row of a tenure alone
abbrev pub row_of : OwnedTenure → TenureRow
row_of t = tenure_at t.id t.tenure

-- ---- chains

module _ (moves last : ℕ) where
  abbrev pub at : Option OwnedTenure → TenurePass
  at before = record { moves = moves; last = last; before = before }

  abbrev pub Starts : OwnedTenure → Type 0
  Starts t = IsOwned t × IsTimely moves last t × IsFirst t

  -- after all tenures of an id, those of a later one begin
  abbrev pub Anew : ℕ → List OwnedTenure → Type 0
  Anew id [] = Unit {0}
  Anew id (t ∷ ts) = (id < t.id) × Starts t × Fit (at (Some t)) ts × AreEnded (at (Some t)) ts

  is_above : (id : ℕ) → IsTrue (is_version_id id) → 0 < id
  is_above id is = grind (arith, nat_tests, is)

  -- no tenure is before the first one
  pub begin : (ts : List OwnedTenure) → Fit (at None) ts → AreEnded (at None) ts → Anew 0 ts
  begin [] fit ended = tt
  begin (t ∷ ts) fit ended = (is_above t.id fit.0.0.id, fit.0, fit.1, ended)

  -- which ids they have
  not_below : (s : OwnedTenure) (ts : List OwnedTenure) (id : ℕ) → id < s.id → Fit (at (Some s)) ts → AllByRecursion (λ r. id < r.id) (map row_of ts)
  not_below s [] id low fit = tt
  not_below s (t ∷ ts) id low ((owned, early, inl (same, next)), more) = let here : id < t.id = omega (arith, low, same) in (here, not_below t ts id here more)
  not_below s (t ∷ ts) id low ((owned, early, inr (up, first, closed)), more) = let here : id < t.id = omega (arith, low, up) in (here, not_below t ts id here more)

  pub ids_above : (id : ℕ) (ts : List OwnedTenure) → Anew id ts → AllByRecursion (λ r. id < r.id) (map row_of ts)
  ids_above id [] new = tt
  ids_above id (t ∷ ts) new = (new.0, not_below t ts id new.0 new.2)

  higher_id : (a b : ℕ) (ts : List OwnedTenure) → a ≡ b → Anew a ts → Anew b ts
  higher_id a b ts same new = subst (λ i. Anew i ts) same new

  row_alike : (t : OwnedTenure) (id : ℕ) → t.id ≡ id → row_of t ≡ tenure_at id t.tenure
  row_alike t id same = ap (λ i. tenure_at i t.tenure) same

  -- the tenures after one of the same version, and the rows after them
  pub record Cut (s : OwnedTenure) (ts : List OwnedTenure) : Type 0 where
    pub run : List Tenure
    pub rest : List OwnedTenure
    pub whole : map row_of ts ≡ run_of s.id run ++ map row_of rest
    pub follow : FollowOn moves (end_at last s.removed) s.tenure run
    pub are : AllByRecursion IsTenure run
    pub ends : EndsAs s.removed s.owner (last_tenure (s.tenure ∷ run))
    pub new : Anew s.id rest

  module _ (bs : List Bucket) (es : List Entry) where
    pub record Those (s : OwnedTenure) (ts : List OwnedTenure) : Type 0 where
      pub cut : Cut s ts
      pub rest : AllByRecursion (IsOfOne bs es) cut.rest

    pub cut : (s : OwnedTenure) (ts : List OwnedTenure) → IsTimely moves last s → Fit (at (Some s)) ts → AreEnded (at (Some s)) ts → IsOfOne bs es s → AllByRecursion (IsOfOne bs es) ts → Those s ts
    cut s [] timely fit ended is all =
        record { cut = record { run = []; rest = []; whole = refl; follow = timely.1; are = tt; ends = ended; new = tt }; rest = tt }
    cut s (t ∷ ts) timely ((owned, early, inl (same, next)), more) ended is all =
        let alike = same_owner bs es s t same is all.0 in
        let later = cut t ts early more ended all.0 all.1 in
        let part = later.cut in
        record {
          cut = record {
            run = t.tenure ∷ part.run;
            rest = part.rest;
            whole = ap₂ (λ (x : TenureRow) (xs : List TenureRow). x ∷ xs) (row_alike t s.id same) (part.whole ∙ ap (λ i. run_of i part.run ++ map row_of part.rest) same);
            follow = (next.0, early.0, next.1, next.2, subst (λ o. FollowOn moves (end_at last o) t.tenure part.run) alike.0 part.follow);
            are = (owned.tenure, part.are);
            ends = subst (λ o. EndsAs s.removed o (last_tenure (t.tenure ∷ part.run))) alike.1 (subst (λ o. EndsAs o t.owner (last_tenure (t.tenure ∷ part.run))) alike.0 part.ends);
            new = higher_id t.id s.id part.rest same part.new;
          };
          rest = later.rest;
        }
    cut s (t ∷ ts) timely ((owned, early, inr (up, first, closed)), more) ended is all =
        record {
          cut = record { run = []; rest = t ∷ ts; whole = refl; follow = timely.1; are = tt; ends = closed; new = (up, (owned, early, first), more, ended) };
          rest = all;
        }
