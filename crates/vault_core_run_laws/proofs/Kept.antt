-- What every permitted change keeps.
use Rattle.std.proofs.Common.{◌≡◌, ℕ, ◌≤◌, List, [], ◌∷◌, ◌++◌, Bool, true, false, Option, Some, None, refl, sym, ap, subst, ◌∙◌, arith, eqb, inr}
use Rattle.std.specs.Prelude.{find, option_map, option_and_then, ◌==◌, if◌then◌else◌}
use Rattle.std.specs.List.{AllByRecursion}
use Rattle.std.proofs.lemmas.Bool.{eqb-true}
use Rattle.vault_lock.specs.declared.lock.Lock.{Lock}
use Rattle.vault_lock.specs.Lock.{guards}
use Rattle.vault_core_model.specs.declared.change.Change.{Change}
use Rattle.vault_core_model.specs.declared.change.Change.TheVariants.{AddDept, AddCaller, CloseCaller, AddBucket, MoveBucket, SetDefault, SetRules, Admit, AddSetting, Remove}
use Rattle.vault_core_model.specs.declared.records.Entry.{Entry}
use Rattle.vault_core_model.specs.declared.records.History.{History}
use Rattle.vault_core_model.specs.declared.records.Removal.{Removal}
use Rattle.vault_core_model.specs.declared.records.Setting.{Setting}
use Rattle.vault_core_model.specs.declared.records.Tenure.{Tenure}
use Rattle.vault_core_model.specs.Places.{is_held_version_in}
use Rattle.vault_core_model.specs.Vault.{Vault, history_of, last_lock}
use Rattle.vault_core_model.specs.Reads.{last_setting, lock_by, lock_of}
use Rattle.vault_core_model.specs.Change.{changed, next_tenure, removed_by, removed_if, tenured_by, tenured_if, with_setting}
use Rattle.vault_core_model.specs.Sound.{Sound}
use Rattle.vault_core_model.specs.Allowed.{IsHeldId}
use Rattle.vault_core_laws.proofs.Lists.{All-push, All-weaker, All-map}
use Rattle.vault_core_laws.proofs.Newest.{finds_itself}
use Rattle.vault_core_run_laws.specs.Chains.{MayMake}
use Rattle.vault_core_run_laws.specs.Permits.{ComesWith, IsPermittedSetting}
use Rattle.vault_core_run_laws.specs.Removals.{IsPermittedUnder, WasPermitted, RemovalsWerePermitted}
use Rattle.vault_core_run_laws.specs.Worm.{IsWorm, Worm, AreKept, HoldIsKept}
use Rattle.vault_core_run_laws.proofs.Settings.{KeepsRights, IsSafe, AllBind, safe-on, last_lock-push, all_bind-push, safe-removed, kept-held}
use Rattle.vault_core_run_laws.proofs.Rights.{rights-added, rights-closed}

-- each history's settings bind, or were kept up to its removal
abbrev pub Safe : Vault → Type 0
Safe v = AllByRecursion (λ h. IsSafe v v.last h.entry.removal h.settings) v.histories

-- ---- what a safe vault keeps

worm_one : (v : Vault) (now : ℕ) (o : Option Removal) (ss : List Setting) → IsSafe v now o ss → AreKept v o ss × HoldIsKept o (last_lock ss).hold
worm_one v now None ss safe = (kept-held v ss, tt)
worm_one v now (Some r) ss safe = (safe.0, safe.1)

pub Safe-Worm : (v : Vault) → Safe v → Worm v
Safe-Worm v safe = All-weaker (λ h. IsSafe v v.last h.entry.removal h.settings) (IsWorm v) (λ h one. worm_one v v.last h.entry.removal h.settings one) v.histories safe

permitted_one : (v : Vault) (now : ℕ) (o : Option Removal) (ss : List Setting) → IsSafe v now o ss → WasPermitted v (last_lock ss) o
permitted_one v now None ss safe = tt
permitted_one v now (Some r) ss safe = safe.2

pub Safe-permitted : (v : Vault) → Safe v → RemovalsWerePermitted v
Safe-permitted v safe = All-weaker (λ h. IsSafe v v.last h.entry.removal h.settings) (λ h. WasPermitted v (last_lock h.settings) h.entry.removal) (λ h one. permitted_one v v.last h.entry.removal h.settings one) v.histories safe

-- ---- histories that stay

stay : (v w : Vault) (t : ℕ) (hs : List History) → KeepsRights v w → v.last ≤ t → AllByRecursion (λ h. IsSafe v v.last h.entry.removal h.settings) hs → AllByRecursion (λ h. IsSafe w t h.entry.removal h.settings) hs
stay v w t hs keep le all =
    All-weaker (λ h. IsSafe v v.last h.entry.removal h.settings) (λ h. IsSafe w t h.entry.removal h.settings) (λ h safe. safe-on v w v.last t h.entry.removal h.settings keep le safe) hs all

-- ---- a new history

safe_new : (v : Vault) (t : ℕ) (who : List ℕ) (marker : Bool) (ss : List Setting) → ComesWith t who marker ss → IsSafe v t None ss
safe_new v t who true ss comes = let P : List Setting → Type 0 = λ ss. IsSafe v t None ss in subst P (sym comes) tt
safe_new v t who false ss comes =
    let P : List Setting → Type 0 = λ ss. IsSafe v t None ss in
    subst P (sym comes.1) (all_bind-push v t t [] comes.0 (record { at = t; by = who; lock = comes.0; bypass = false }) (omega arith) (refl, inr (refl, refl)) tt)

-- ---- the history of an id

lock_in : (ss : List Setting) → lock_by (last_setting ss) ≡ last_lock ss
lock_in [] = refl
lock_in (s ∷ ss) = refl

pub lock_of-found : (v : Vault) (id : ℕ) (h : History) → history_of v id ≡ Some h → lock_of v id ≡ last_lock h.settings
lock_of-found v id h found = ap (λ (o : Option History). lock_by (option_and_then (λ g. last_setting g.settings) o)) found ∙ lock_in h.settings

pub held-found : (v : Vault) (id : ℕ) (h : History) → history_of v id ≡ Some h → IsHeldId v id → h.entry.removal ≡ None
held-found v id h found held =
    let same : Some h.entry ≡ Some held.0 = sym (ap (λ (o : Option History). option_map (λ g. g.entry) o) found) ∙ held.1 in
    let entry : h.entry ≡ held.0 = cc same in
    ap (λ (e : Entry). e.removal) entry ∙ held.2

pub by_own_id : (v : Vault) (id : ℕ) (h : History) → find (λ g. g.entry.id == h.entry.id) v.histories ≡ Some h → eqb h.entry.id id ≡ true → history_of v id ≡ Some h
by_own_id v id h own e = let P : ℕ → Type 0 = λ i. find (λ g. g.entry.id == i) v.histories ≡ Some h in subst P (eqb-true h.entry.id id e) own

-- ---- one setting more

setting_added : (v w : Vault) (t id : ℕ) (who : List ℕ) (s : Setting) (h : History) → KeepsRights v w → v.last ≤ t → IsHeldId v id → IsPermittedSetting v t who (lock_of v id) s → find (λ g. g.entry.id == h.entry.id) v.histories ≡ Some h → IsSafe v v.last h.entry.removal h.settings → IsSafe w t (with_setting id s h).entry.removal (with_setting id s h).settings
setting_added v w t id who s h keep le held permitted own safe = by_id (eqb h.entry.id id) refl
  where
    added : history_of v id ≡ Some h → IsSafe w t h.entry.removal (h.settings ++ s ∷ [])
    added found =
        let none = held-found v id h found held in
        let P : Option Removal → Type 0 = λ o. IsSafe v v.last o h.settings in
        let Q : Lock → Type 0 = λ l. IsPermittedSetting v t s.by l s in
        let R : Option Removal → Type 0 = λ o. IsSafe w t o (h.settings ++ s ∷ []) in
        let S : Lock → Type 0 = λ l. AllBind v t l.retention (h.settings ++ s ∷ []) in
        let bind = all_bind-push v v.last t h.settings (last_lock h.settings) s le (subst Q (lock_of-found v id h found) (refl, permitted.1)) (subst P none safe) in
        subst R (sym none) (safe-on v w t t None (h.settings ++ s ∷ []) keep (omega arith) (subst S (sym (last_lock-push h.settings s)) bind))

    by_id : (b : Bool) → eqb h.entry.id id ≡ b → IsSafe w t (if b then record h { settings = h.settings ++ s ∷ [] } else h).entry.removal (if b then record h { settings = h.settings ++ s ∷ [] } else h).settings
    by_id true e = added (by_own_id v id h own e)
    by_id false e = safe-on v w v.last t h.entry.removal h.settings keep le safe

-- ---- a removal

removed_one : (v w : Vault) (t id : ℕ) (r : Removal) (h : History) → KeepsRights v w → v.last ≤ t → r.at ≡ t → IsHeldId v id → IsPermittedUnder v (guards (lock_of v id) t) r.cause → find (λ g. g.entry.id == h.entry.id) v.histories ≡ Some h → IsSafe v v.last h.entry.removal h.settings → IsSafe w t (removed_if id r h).entry.removal (removed_if id r h).settings
removed_one v w t id r h keep le now held permitted own safe = by_id (eqb h.entry.id id) refl
  where
    removed : history_of v id ≡ Some h → IsSafe w t (Some r) h.settings
    removed found =
        let P : Option Removal → Type 0 = λ o. IsSafe v v.last o h.settings in
        let Q : Lock → Type 0 = λ l. IsPermittedUnder v (guards l t) r.cause in
        let R : ℕ → Type 0 = λ m. IsPermittedUnder v (guards (last_lock h.settings) m) r.cause in
        let may = subst R (sym now) (subst Q (lock_of-found v id h found) permitted) in
        safe-on v w r.at t (Some r) h.settings keep (omega (arith, now))
        (safe-removed v v.last r h.settings (omega (arith, now, le)) may (subst P (held-found v id h found held) safe))

    by_id : (b : Bool) → eqb h.entry.id id ≡ b → IsSafe w t (if b then removed_by r h else h).entry.removal (if b then removed_by r h else h).settings
    by_id true e = removed (by_own_id v id h own e)
    by_id false e = safe-on v w v.last t h.entry.removal h.settings keep le safe

-- ---- a move

-- a tenure more leaves the removal and the settings
moved_one : (v w : Vault) (t : ℕ) (bucket : List ℕ) (tenure : Tenure) (h : History) → KeepsRights v w → v.last ≤ t → IsSafe v v.last h.entry.removal h.settings → IsSafe w t (tenured_if bucket tenure h).entry.removal (tenured_if bucket tenure h).settings
moved_one v w t bucket tenure h keep le safe =
    elim (is_held_version_in bucket h.entry) as (λ b. IsSafe w t (if b then tenured_by tenure h else h).entry.removal (if b then tenured_by tenure h else h).settings) [
      | true ↦ safe-on v w v.last t h.entry.removal h.settings keep le safe
      | false ↦ safe-on v w v.last t h.entry.removal h.settings keep le safe
    ]

-- ---- the changes

pub Safe-changed : (v : Vault) (t : ℕ) (who : List ℕ) (c : Change) → Sound v → Safe v → MayMake v t who c → Safe (changed v t c)
Safe-changed v t who (AddDept name) sound safe may = stay v (changed v t (AddDept name)) t v.histories (λ by m. m) may.in_time safe
Safe-changed v t who (AddCaller c) sound safe may =
    stay v (changed v t (AddCaller c)) t v.histories (λ by m. rights-added v.callers c by may.allowed.0 m) may.in_time safe
Safe-changed v t who (CloseCaller name) sound safe may =
    stay v (changed v t (CloseCaller name)) t v.histories (λ by m. rights-closed v.callers name by ∙ m) may.in_time safe
Safe-changed v t who (AddBucket name dept) sound safe may = stay v (changed v t (AddBucket name dept)) t v.histories (λ by m. m) may.in_time safe
Safe-changed v t who (MoveBucket name dept) sound safe may =
    let w = changed v t (MoveBucket name dept) in
    All-map (λ h. find (λ g. g.entry.id == h.entry.id) v.histories ≡ Some h) (λ h. IsSafe v v.last h.entry.removal h.settings) (λ h. IsSafe w t h.entry.removal h.settings) (tenured_if name (next_tenure v t dept))
    (λ h own one. moved_one v w t name (next_tenure v t dept) h (λ by m. m) may.in_time one)
    v.histories (finds_itself 1 v.histories sound.ids) safe
Safe-changed v t who (SetDefault name default) sound safe may = stay v (changed v t (SetDefault name default)) t v.histories (λ by m. m) may.in_time safe
Safe-changed v t who (SetRules name rules) sound safe may = stay v (changed v t (SetRules name rules)) t v.histories (λ by m. m) may.in_time safe
Safe-changed v t who (Admit a) sound safe may =
    let w = changed v t (Admit a) in
    let P : Option Removal → Type 0 = λ o. IsSafe w t o a.history.settings in
    All-push (λ h. IsSafe w t h.entry.removal h.settings) v.histories a.history (stay v w t v.histories (λ by m. m) may.in_time safe)
    (subst P (sym may.allowed.held) (safe_new w t who a.history.entry.marker a.history.settings may.permitted))
Safe-changed v t who (AddSetting id s) sound safe may =
    let w = changed v t (AddSetting id s) in
    All-map (λ h. find (λ g. g.entry.id == h.entry.id) v.histories ≡ Some h) (λ h. IsSafe v v.last h.entry.removal h.settings) (λ h. IsSafe w t h.entry.removal h.settings) (with_setting id s)
    (λ h own one. setting_added v w t id who s h (λ by m. m) may.in_time may.permitted.0 may.permitted.1 own one)
    v.histories (finds_itself 1 v.histories sound.ids) safe
Safe-changed v t who (Remove id r) sound safe may =
    let w = changed v t (Remove id r) in
    All-map (λ h. find (λ g. g.entry.id == h.entry.id) v.histories ≡ Some h) (λ h. IsSafe v v.last h.entry.removal h.settings) (λ h. IsSafe w t h.entry.removal h.settings) (removed_if id r)
    (λ h own one. removed_one v w t id r h (λ by m. m) may.in_time may.allowed.now may.allowed.held may.permitted.1 own one)
    v.histories (finds_itself 1 v.histories sound.ids) safe
