-- In every vault that is reached versions of one bucket agree on its department, and the caller of a new vault is there.
use Rattle.std.proofs.Common.{◌≡◌, ◌⊎◌, ◌∙◌, ℕ, ◌≤◌, ◌<◌, ◌==◌, List, [], ◌∷◌, ◌++◌, map, Bool, true, false, Option, Some, None, refl, sym, ap, subst, inl, inr, arith, eqb}
use Rattle.std.specs.Prelude.{nat_le, find, not, ◌&&◌, is_none, option_map, if◌then◌else◌}
use Rattle.std.specs.List.{AllByRecursion}
use Rattle.std.specs.Str.{bytes_eq}
use Rattle.std.proofs.lemmas.Bool.{and_parts, leb-true}
use Rattle.std.proofs.lemmas.Slice.Eq.{bytes_eq-Decides}
use Rattle.vault_core_model.specs.declared.change.Change.{Change}
use Rattle.vault_core_model.specs.declared.change.Change.TheVariants.{AddDept, AddCaller, CloseCaller, AddBucket, MoveBucket, SetDefault, SetRules, Admit, AddSetting, Remove}
use Rattle.vault_core_model.specs.declared.records.BucketConfig.{BucketConfig}
use Rattle.vault_core_model.specs.declared.records.History.{History}
use Rattle.vault_core_model.specs.declared.records.Removal.{Removal}
use Rattle.vault_core_model.specs.declared.records.Setting.{Setting}
use Rattle.vault_core_model.specs.declared.records.Tenure.{Tenure}
use Rattle.vault_core_model.specs.Places.{is_held, is_held_in, is_held_version_in}
use Rattle.vault_core_model.specs.Vault.{Vault, config_of, opening_of, registrar, registrar_name}
use Rattle.vault_core_model.specs.Change.{changed, next_tenure, removed_by, removed_if, tenured_by, tenured_if, with_setting}
use Rattle.vault_core_model.specs.Sound.{AreTenures, FollowOn, HasTenures, HasTenuresAs, IsInTime, IsWithBucket, LiesBetween, Sound, end_of, last_tenure}
use Rattle.vault_core_model.specs.Allowed.{HasFirstTenure, IsHeldId}
use Rattle.vault_core_model.specs.Rights.{rights_number}
use Rattle.vault_core_model.specs.Step.{Reached}
use Rattle.vault_core_laws.proofs.Lists.{All-push, All-both, All-map, All-weaker}
use Rattle.vault_core_laws.proofs.Newest.{finds_itself}
use Rattle.vault_core_run_laws.specs.Chains.{MayMake}
use Rattle.vault_core_run_laws.proofs.Kept.{by_own_id, held-found}
use Rattle.vault_core_run_laws.proofs.Reached.{IsRun-keeps, Sound-opening, run-callers}
use Rattle.vault_core_evidence.specs.Departments.{WasOf, removed_at, Agree, AllAgree, DepartmentsAgree}
use Rattle.vault_core_evidence.specs.Lawful.{has_registrar, is_registrar}

-- ---- one department of each bucket in each second

-- which department each bucket has as each second ends
abbrev Owners : Type 0
Owners = List ℕ → ℕ → List ℕ

abbrev IsOf : Owners → History → Type 0
IsOf owners h = (s : ℕ) (dept : List ℕ) → WasOf h.tenures (removed_at h.entry) s dept → owners h.entry.bucket s ≡ dept

abbrev AreOf : Vault → Type 0
AreOf v = (owners : Owners) × AllByRecursion (IsOf owners) v.histories

two_agree : (owners : Owners) (h g : History) → IsOf owners h → IsOf owners g → Agree h g
two_agree owners h g one other bucket s dept own was had = sym (one s dept was) ∙ (ap (λ b. owners b s) bucket ∙ other s own had)

all_agree : (owners : Owners) (hs : List History) → AllByRecursion (IsOf owners) hs → AllAgree hs
all_agree owners [] all = tt
all_agree owners (h ∷ hs) all = (All-weaker (IsOf owners) (Agree h) (λ g is. two_agree owners h g all.0 is) hs all.1, all_agree owners hs all.1)

-- from t on the bucket has that department
abbrev from_then : Owners → List ℕ → ℕ → List ℕ → Owners
from_then owners bucket t dept name s = if bytes_eq name bucket then (if nat_le t s then dept else owners name s) else owners name s

-- ---- what the tenures of a sound vault show

abbrev dept_of : Option Tenure → Option (List ℕ)
dept_of o = option_map (λ t. t.dept) o

follow_end : (moves end : ℕ) (t : Tenure) (ts : List Tenure) → FollowOn moves end t ts → t.from ≤ end
follow_end moves end t [] follow = follow
follow_end moves end t (u ∷ us) follow = omega (arith, follow.2, follow_end moves end u us follow.4)

-- as a second ends that isn't before the last moment, a held version is of its last department
held_shows : (moves last : ℕ) (t : Tenure) (ts : List Tenure) (s : ℕ) (dept : List ℕ) → FollowOn moves last t ts → last ≤ s → WasOf (t ∷ ts) None s dept → dept_of (last_tenure (t ∷ ts)) ≡ Some dept
held_shows moves last t [] s dept follow le (inl here) = ap (λ (d : List ℕ). Some d) here.2
held_shows moves last t [] s dept follow le (inr none) = absurd none
held_shows moves last t (u ∷ us) s dept follow le (inl here) = absurd (omega (arith, here.1, le, follow_end moves last u us follow.4))
held_shows moves last t (u ∷ us) s dept follow le (inr later) = held_shows moves last u us s dept follow.4 le later

-- and a removed one of none
removed_shows : (moves end : ℕ) (t : Tenure) (ts : List Tenure) (s : ℕ) (dept : List ℕ) → FollowOn moves end t ts → end ≤ s → WasOf (t ∷ ts) (Some end) s dept → ⊥
removed_shows moves end t [] s dept follow le (inl here) = absurd (omega (arith, here.1, le))
removed_shows moves end t [] s dept follow le (inr none) = none
removed_shows moves end t (u ∷ us) s dept follow le (inl here) = absurd (omega (arith, here.1, le, follow_end moves end u us follow.4))
removed_shows moves end t (u ∷ us) s dept follow le (inr later) = removed_shows moves end u us s dept follow.4 le later

-- what shows something from the last moment on is a held version, of the department of its bucket
record IsOwn (v : Vault) (h : History) (dept : List ℕ) : Type 0 where
  version : h.entry.marker ≡ false
  held : h.entry.removal ≡ None
  own : option_map (λ (c : BucketConfig). c.dept) (config_of v h.entry.bucket) ≡ Some dept

shows_own : (v : Vault) (h : History) (s : ℕ) (dept : List ℕ) → HasTenures v h → IsInTime v.last h → v.last ≤ s → WasOf h.tenures (removed_at h.entry) s dept → IsOwn v h dept
shows_own v h s dept has in_time le was = by_marker h.entry.marker refl has
  where
    by_removal : (o : Option Removal) → h.entry.removal ≡ o → h.entry.marker ≡ false → (ts : List Tenure) → h.tenures ≡ ts → AreTenures v h.entry ts → IsWithBucket v h.entry.removal h → IsOwn v h dept
    by_removal None is version [] same follow with = absurd follow
    by_removal (Some r) is version [] same follow with = absurd follow
    by_removal None is version (t ∷ ts) same follow with =
        let P : Option Removal → Type 0 = λ r. IsWithBucket v r h in
        let Q : List Tenure → Option Removal → Type 0 = λ us r. WasOf us (option_map (λ (x : Removal). x.at) r) s dept in
        let R : Option Removal → Type 0 = λ r. FollowOn v.moves (end_of v.last r) t ts in
        let one : WasOf (t ∷ ts) None s dept = subst (λ (r : Option Removal). Q (t ∷ ts) r) is (subst (λ (us : List Tenure). Q us h.entry.removal) same was) in
        record { version = version; held = is; own = sym (subst P is with) ∙ (ap (λ (us : List Tenure). dept_of (last_tenure us)) same ∙ held_shows v.moves v.last t ts s dept (subst R is follow.2) le one) }
    by_removal (Some r) is version (t ∷ ts) same follow with =
        let Q : List Tenure → Option Removal → Type 0 = λ us o. WasOf us (option_map (λ (x : Removal). x.at) o) s dept in
        let R : Option Removal → Type 0 = λ o. FollowOn v.moves (end_of v.last o) t ts in
        let S : Option Removal → Type 0 = λ o. LiesBetween h.entry.admitted v.last o in
        let one : WasOf (t ∷ ts) (Some r.at) s dept = subst (λ (o : Option Removal). Q (t ∷ ts) o) is (subst (λ (us : List Tenure). Q us h.entry.removal) same was) in
        let between : LiesBetween h.entry.admitted v.last (Some r) = subst S is in_time in
        absurd (removed_shows v.moves r.at t ts s dept (subst R is follow.2) (omega (arith, between.1, le)) one)

    by_marker : (marker : Bool) → h.entry.marker ≡ marker → HasTenuresAs marker v h → IsOwn v h dept
    by_marker true is none = let P : List Tenure → Type 0 = λ ts. WasOf ts (removed_at h.entry) s dept in absurd (subst P none was)
    by_marker false is tenures = by_removal h.entry.removal refl is h.tenures refl tenures.0 tenures.2

le_true : (m n : ℕ) → m ≤ n → nat_le m n ≡ true
le_true m n le = grind (arith, le)

-- ---- one change more

at_then : (owners : Owners) (bucket : List ℕ) (t : ℕ) (dept name : List ℕ) (s : ℕ) (own : List ℕ) → (t ≤ s → name ≡ bucket → dept ≡ own) → owners name s ≡ own → from_then owners bucket t dept name s ≡ own
at_then owners bucket t dept name s own from before = by_name (bytes_eq name bucket) refl
  where
    by_time : (b : Bool) → nat_le t s ≡ b → name ≡ bucket → (if b then dept else owners name s) ≡ own
    by_time true e same = from (leb-true t s e) same
    by_time false e same = before

    by_name : (b : Bool) → bytes_eq name bucket ≡ b → (if b then (if nat_le t s then dept else owners name s) else owners name s) ≡ own
    by_name true e = by_time (nat_le t s) refl ((bytes_eq-Decides name bucket).0 e)
    by_name false e = before

-- from then on it is that department, whatever was before
then_own : (owners : Owners) (bucket : List ℕ) (t : ℕ) (dept name : List ℕ) (s : ℕ) → t ≤ s → name ≡ bucket → from_then owners bucket t dept name s ≡ dept
then_own owners bucket t dept name s le same =
    rw ((bytes_eq-Decides name bucket).1 same, le_true t s le) refl

-- what is kept as it was
kept_one : (v : Vault) (owners : Owners) (t : ℕ) (bucket dept : List ℕ) (h : History) → v.last ≤ t → HasTenures v h × IsInTime v.last h → ((own : List ℕ) → h.entry.bucket ≡ bucket → IsOwn v h own → dept ≡ own) → IsOf owners h → IsOf (from_then owners bucket t dept) h
kept_one v owners t bucket dept h le sound same of s own was =
    at_then owners bucket t dept h.entry.bucket s own
    (λ after here. same own here (shows_own v h s own sound.0 sound.1 (omega (arith, le, after)) was)) (of s own was)

-- one tenure more
pushed : (moves last t : ℕ) (u : Tenure) (us : List Tenure) (n : Tenure) (s : ℕ) (dept : List ℕ) → FollowOn moves last u us → last ≤ t → n.from ≡ t → WasOf (u ∷ us ++ n ∷ []) None s dept → (WasOf (u ∷ us) None s dept × (s < t)) ⊎ ((t ≤ s) × (n.dept ≡ dept))
pushed moves last t u [] n s dept follow le now (inl here) = inl (inl (here.0, tt, here.2), omega (arith, here.1, now))
pushed moves last t u [] n s dept follow le now (inr (inl here)) = inr (omega (arith, here.0, now), here.2)
pushed moves last t u [] n s dept follow le now (inr (inr none)) = absurd none
pushed moves last t u (w ∷ ws) n s dept follow le now (inl here) = inl (inl here, omega (arith, here.1, follow_end moves last w ws follow.4, le))
pushed moves last t u (w ∷ ws) n s dept follow le now (inr later) = by_rest (pushed moves last t w ws n s dept follow.4 le now later)
  where
    by_rest : (WasOf (w ∷ ws) None s dept × (s < t)) ⊎ ((t ≤ s) × (n.dept ≡ dept)) → (WasOf (u ∷ w ∷ ws) None s dept × (s < t)) ⊎ ((t ≤ s) × (n.dept ≡ dept))
    by_rest (inl was) = inl (inr was.0, was.1)
    by_rest (inr new) = inr new

-- ---- a move

is_none_is : (o : Option Removal) → is_none o ≡ true → o ≡ None
is_none_is None e = refl
is_none_is (Some r) e = absurd (cc e)

abbrev IsSoundOne : Vault → History → Type 0
IsSoundOne v h = HasTenures v h × IsInTime v.last h

moved_to : (v : Vault) (owners : Owners) (t : ℕ) (name dept : List ℕ) (h : History) (ts : List Tenure) → v.last ≤ t → h.entry.bucket ≡ name → h.entry.removal ≡ None → h.tenures ≡ ts → AreTenures v h.entry ts → IsOf owners h → IsOf (from_then owners name t dept) (tenured_by (next_tenure v t dept) h)
moved_to v owners t name dept h [] le here held same are of s own was = absurd are
moved_to v owners t name dept h (u ∷ us) le here held same are of s own was = by_time (pushed v.moves v.last t u us (next_tenure v t dept) s own (subst R held are.2) le refl one)
  where
    R : Option Removal → Type 0
    R o = FollowOn v.moves (end_of v.last o) u us

    Q : List Tenure → Option Removal → Type 0
    Q ws o = WasOf (ws ++ next_tenure v t dept ∷ []) (option_map (λ (x : Removal). x.at) o) s own

    one : WasOf (u ∷ us ++ next_tenure v t dept ∷ []) None s own
    one = subst (λ (o : Option Removal). Q (u ∷ us) o) held (subst (λ (ws : List Tenure). Q ws h.entry.removal) same was)

    back : WasOf (u ∷ us) None s own → WasOf h.tenures (removed_at h.entry) s own
    back was =
        let P : List Tenure → Option Removal → Type 0 = λ ws o. WasOf ws (option_map (λ (x : Removal). x.at) o) s own in
        subst (λ (ws : List Tenure). P ws h.entry.removal) (sym same) (subst (λ (o : Option Removal). P (u ∷ us) o) (sym held) was)

    by_time : (WasOf (u ∷ us) None s own × (s < t)) ⊎ ((t ≤ s) × (dept ≡ own)) → from_then owners name t dept h.entry.bucket s ≡ own
    by_time (inr new) = then_own owners name t dept h.entry.bucket s new.0 here ∙ new.1
    by_time (inl old) = at_then owners name t dept h.entry.bucket s own (λ after same. absurd (omega (arith, after, old.1))) (of s own (back old.0))

tenures_are : (v : Vault) (h : History) (marker : Bool) → h.entry.marker ≡ marker → marker ≡ false → HasTenuresAs marker v h → AreTenures v h.entry h.tenures
tenures_are v h true is version has = absurd (cc version)
tenures_are v h false is version has = has.0

not_true : (b : Bool) → not b ≡ true → b ≡ false
not_true true e = absurd (cc e)
not_true false e = refl

held_version : (marker other held : Bool) → marker ≡ false → other ≡ true → held ≡ true → (not marker && (other && held)) ≡ true
held_version marker other held a b c = rw (a, b, c) refl

moved_one : (v : Vault) (owners : Owners) (t : ℕ) (name dept : List ℕ) (h : History) → v.last ≤ t → IsSoundOne v h → IsOf owners h → IsOf (from_then owners name t dept) (tenured_if name (next_tenure v t dept) h)
moved_one v owners t name dept h le sound of = by_held (is_held_version_in name h.entry) refl
  where
    still : is_held_version_in name h.entry ≡ false → (own : List ℕ) → h.entry.bucket ≡ name → IsOwn v h own → dept ≡ own
    still other own here is =
        let P : Option Removal → Type 0 = λ o. is_none o ≡ true in
        let held : is_none h.entry.removal ≡ true = subst P (sym is.held) refl in
        let both = held_version h.entry.marker (bytes_eq h.entry.bucket name) (is_none h.entry.removal) is.version ((bytes_eq-Decides h.entry.bucket name).1 here) held in
        absurd (cc (sym both ∙ other))

    by_held : (b : Bool) → is_held_version_in name h.entry ≡ b → IsOf (from_then owners name t dept) (if b then tenured_by (next_tenure v t dept) h else h)
    by_held true e =
        let version = and_parts (not h.entry.marker) (is_held_in name h.entry) e in
        let place = and_parts (bytes_eq h.entry.bucket name) (is_held h.entry) version.1 in
        moved_to v owners t name dept h h.tenures le ((bytes_eq-Decides h.entry.bucket name).0 place.0) (is_none_is h.entry.removal place.1) refl
        (tenures_are v h h.entry.marker refl (not_true h.entry.marker version.0) sound.0) of
    by_held false e = kept_one v owners t name dept h le sound (still e) of

-- ---- an admission

own_then : (v : Vault) (bucket : List ℕ) (config : BucketConfig) (h : History) (own : List ℕ) → config_of v bucket ≡ Some config → h.entry.bucket ≡ bucket → IsOwn v h own → config.dept ≡ own
own_then v bucket config h own placed here is =
    let same : Some config.dept ≡ Some own = sym (ap (λ (o : Option BucketConfig). option_map (λ (c : BucketConfig). c.dept) o) (ap (λ (b : List ℕ). config_of v b) here ∙ placed)) ∙ is.own in
    cc same

new_one : (owners : Owners) (t : ℕ) (dept : List ℕ) (h : History) (marker : Bool) → HasFirstTenure marker t dept h.tenures → IsOf (from_then owners h.entry.bucket t dept) h
new_one owners t dept h true first s own was =
    let P : List Tenure → Type 0 = λ ts. WasOf ts (removed_at h.entry) s own in absurd (subst P first was)
new_one owners t dept h false first s own was = by_place (subst P first was)
  where
    P : List Tenure → Type 0
    P ts = WasOf ts (removed_at h.entry) s own

    by_place : WasOf (record { dept = dept; from = t; number = 0 } ∷ []) (removed_at h.entry) s own → from_then owners h.entry.bucket t dept h.entry.bucket s ≡ own
    by_place (inl here) = then_own owners h.entry.bucket t dept h.entry.bucket s here.0 refl ∙ here.2
    by_place (inr none) = absurd none

-- ---- a removal

capped : (ts : List Tenure) (end s : ℕ) (dept : List ℕ) → WasOf ts (Some end) s dept → WasOf ts None s dept
capped [] end s dept was = was
capped (t ∷ []) end s dept (inl here) = inl (here.0, tt, here.2)
capped (t ∷ []) end s dept (inr none) = inr none
capped (t ∷ u ∷ us) end s dept (inl here) = inl here
capped (t ∷ u ∷ us) end s dept (inr later) = inr (capped (u ∷ us) end s dept later)

removed_one : (v : Vault) (owners : Owners) (id : ℕ) (r : Removal) (h : History) → IsHeldId v id → find (λ g. g.entry.id == h.entry.id) v.histories ≡ Some h → IsOf owners h → IsOf owners (removed_if id r h)
removed_one v owners id r h held itself of = by_id (eqb h.entry.id id) refl
  where
    removed : h.entry.removal ≡ None → IsOf owners (removed_by r h)
    removed none s own was =
        let P : Option Removal → Type 0 = λ o. WasOf h.tenures (option_map (λ (x : Removal). x.at) o) s own in
        of s own (subst P (sym none) (capped h.tenures r.at s own was))

    by_id : (b : Bool) → eqb h.entry.id id ≡ b → IsOf owners (if b then removed_by r h else h)
    by_id true e = removed (held-found v id h (by_own_id v id h itself e) held)
    by_id false e = of

set_one : (owners : Owners) (id : ℕ) (s : Setting) (h : History) → IsOf owners h → IsOf owners (with_setting id s h)
set_one owners id s h of =
    elim (eqb h.entry.id id) as (λ b. IsOf owners (if b then record h { settings = h.settings ++ s ∷ [] } else h)) [ true ↦ of | false ↦ of ]

each : (P Q : History → Type 0) (f : History → History) → ((h : History) → P h → Q (f h)) → (hs : List History) → AllByRecursion P hs → AllByRecursion Q (map f hs)
each P Q f go [] all = tt
each P Q f go (h ∷ hs) all = (go h all.0, each P Q f go hs all.1)

-- ---- the changes

sound_ones : (v : Vault) → Sound v → AllByRecursion (IsSoundOne v) v.histories
sound_ones v sound = All-both (HasTenures v) (IsInTime v.last) (IsSoundOne v) (λ h a b. (a, b)) v.histories sound.tenured sound.in_time

AreOf-changed : (v : Vault) (t : ℕ) (who : List ℕ) (c : Change) → Sound v → AreOf v → MayMake v t who c → AreOf (changed v t c)
AreOf-changed v t who (AddDept name) sound are may = are
AreOf-changed v t who (AddCaller c) sound are may = are
AreOf-changed v t who (CloseCaller name) sound are may = are
AreOf-changed v t who (AddBucket name dept) sound are may = are
AreOf-changed v t who (MoveBucket name dept) sound are may = (
  from_then are.0 name t dept,
  All-map (IsSoundOne v) (IsOf are.0) (IsOf (from_then are.0 name t dept)) (tenured_if name (next_tenure v t dept))
      (λ h one of. moved_one v are.0 t name dept h may.in_time one of) v.histories (sound_ones v sound) are.1,
)
AreOf-changed v t who (SetDefault name default) sound are may = are
AreOf-changed v t who (SetRules name rules) sound are may = are
AreOf-changed v t who (Admit a) sound are may =
    let bucket = a.history.entry.bucket in
    let dept = may.allowed.bucket.dept in
    let owners = from_then are.0 bucket t dept in (
      owners,
      All-push (IsOf owners) v.histories a.history
          (All-both (IsSoundOne v) (IsOf are.0) (IsOf owners) (λ h one of. kept_one v are.0 t bucket dept h may.in_time one (λ own here is. own_then v bucket may.allowed.bucket h own may.allowed.placed here is) of) v.histories (sound_ones v sound) are.1)
          (new_one are.0 t dept a.history a.history.entry.marker may.allowed.tenured),
    )
AreOf-changed v t who (AddSetting id s) sound are may =
    (are.0, each (IsOf are.0) (IsOf are.0) (with_setting id s) (λ h of. set_one are.0 id s h of) v.histories are.1)
AreOf-changed v t who (Remove id r) sound are may = (
  are.0,
  All-map (λ h. find (λ g. g.entry.id == h.entry.id) v.histories ≡ Some h) (IsOf are.0) (IsOf are.0) (removed_if id r)
      (λ h itself of. removed_one v are.0 id r h may.allowed.held itself of) v.histories (finds_itself 1 v.histories sound.ids) are.1,
)

pub reached-Departments : (v : Vault) → Reached v → DepartmentsAgree v
reached-Departments v reached =
    let are = (IsRun-keeps AreOf AreOf-changed (opening_of v.external) v reached.0 reached.1 reached.2 (Sound-opening v.external, ((λ bucket s. []), tt))).1 in
    all_agree are.0 v.histories are.1

-- ---- the caller of a new vault

eq_itself : (n : ℕ) → (n == n) ≡ true
eq_itself n = grind arith

still_registrar : (closed : Bool) → is_registrar (Some (record registrar { closed = closed })) ≡ true
still_registrar closed = eq_itself (rights_number registrar.rights)

pub reached-registrar : (v : Vault) → Reached v → has_registrar v ≡ true
reached-registrar v reached =
    let is = run-callers (opening_of v.external) v reached.0 reached.1 (Sound-opening v.external) reached.2 registrar_name registrar refl in
    ap is_registrar is.there ∙ still_registrar is.closed
