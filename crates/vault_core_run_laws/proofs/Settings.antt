-- Each retention that a version ever had is over, is covered by the last one, or was lowered by an allowed bypass.
use Rattle.std.proofs.Common.{◌≡◌, ℕ, ◌≤◌, List, [], ◌∷◌, ◌++◌, Bool, true, false, Option, Some, None, refl, sym, ◌∙◌, subst, inl, inr, arith}
use Rattle.std.specs.Prelude.{◌⊎◌, nat_lt}
use Rattle.std.proofs.lemmas.Bool.{ltb-true, ltb-false}
use Rattle.vault_lock.specs.declared.lock.Denial.TheVariants as denial
use Rattle.vault_lock.specs.declared.lock.Lock.{Lock}
use Rattle.vault_lock.specs.declared.retention.Mode.{Mode}
use Rattle.vault_lock.specs.declared.retention.Mode.TheVariants.{Governance, Compliance}
use Rattle.vault_lock.specs.declared.retention.Retention.{Retention}
use Rattle.vault_lock.specs.Lock.{guards, KeepsRetention, LowersGovernance, denial_of}
use Rattle.vault_core_model.specs.declared.records.Cause.{Cause}
use Rattle.vault_core_model.specs.declared.records.Cause.TheVariants.{Request, Bypass, Rule}
use Rattle.vault_core_model.specs.declared.records.Removal.{Removal}
use Rattle.vault_core_model.specs.declared.records.Setting.{Setting}
use Rattle.vault_core_model.specs.Vault.{Vault, last_lock}
use Rattle.vault_core_run_laws.specs.Bypass.{MayBypass}
use Rattle.vault_core_run_laws.specs.Permits.{IsRetentionSetting, IsHoldSetting, IsPermittedSetting}
use Rattle.vault_core_run_laws.specs.Removals.{IsPermittedUnder, WasPermitted}
use Rattle.vault_core_run_laws.specs.Worm.{IsBypassOf, IsLowered, IsKeptTo, IsKept, AreKept, HoldIsKept}
use Rattle.vault_core_run_laws.proofs.Guarding.{over_or_bypassed, off_hold}

-- whoever may bypass in v may in w
abbrev pub KeepsRights : Vault → Vault → Type 0
KeepsRights v w = (who : List ℕ) → MayBypass v who → MayBypass w who

-- the last retention has the mode of r and ends no earlier
abbrev pub Covers : Option Retention → Retention → Type 0
Covers None r = ⊥
Covers (Some l) r = (l.mode ≡ r.mode) × (r.until ≤ l.until)

abbrev pub IsBinding : Vault → ℕ → Option Retention → List Setting → Retention → Type 0
IsBinding v now last later r = (r.until ≤ now) ⊎ (Covers last r ⊎ ((r.mode ≡ Governance) × IsLowered v later))

abbrev pub Binds : Vault → ℕ → Option Retention → List Setting → Option Retention → Type 0
Binds v now last later None = Unit {0}
Binds v now last later (Some r) = IsBinding v now last later r

-- each of these settings, where the last one of all has that retention
abbrev pub AllBind : Vault → ℕ → Option Retention → List Setting → Type 0
AllBind v now last [] = Unit {0}
AllBind v now last (s ∷ later) = Binds v now last later s.lock.retention × AllBind v now last later

-- a held version's settings bind; a removed one's were kept, and its removal was permitted
abbrev pub IsSafe : Vault → ℕ → Option Removal → List Setting → Type 0
IsSafe v now None ss = AllBind v now (last_lock ss).retention ss
IsSafe v now (Some r) ss =
    AreKept v (Some r) ss × HoldIsKept (Some r) (last_lock ss).hold × WasPermitted v (last_lock ss) (Some r)

-- ---- as time goes on and callers come

lowered-on : (v w : Vault) (ss : List Setting) → KeepsRights v w → IsLowered v ss → IsLowered w ss
lowered-on v w [] keep low = low
lowered-on v w (s ∷ ss) keep (inl low) = inl (low.0, keep s.by low.1)
lowered-on v w (s ∷ ss) keep (inr low) = inr (lowered-on v w ss keep low)

bypass-on : (v w : Vault) (c : Cause) → KeepsRights v w → IsBypassOf v c → IsBypassOf w c
bypass-on v w (Request who) keep by = by
bypass-on v w (Bypass who) keep by = keep who by
bypass-on v w (Rule rule) keep by = by

binds-on : (v w : Vault) (now t : ℕ) (last : Option Retention) (later : List Setting) (o : Option Retention) → KeepsRights v w → now ≤ t → Binds v now last later o → Binds w t last later o
binds-on v w now t last later None keep le b = tt
binds-on v w now t last later (Some r) keep le (inl over) = inl (omega (arith, over, le))
binds-on v w now t last later (Some r) keep le (inr (inl covers)) = inr (inl covers)
binds-on v w now t last later (Some r) keep le (inr (inr low)) = inr (inr (low.0, lowered-on v w later keep low.1))

all_bind-on : (v w : Vault) (now t : ℕ) (last : Option Retention) (ss : List Setting) → KeepsRights v w → now ≤ t → AllBind v now last ss → AllBind w t last ss
all_bind-on v w now t last [] keep le all = tt
all_bind-on v w now t last (s ∷ ss) keep le all =
    (binds-on v w now t last ss s.lock.retention keep le all.0, all_bind-on v w now t last ss keep le all.1)

kept_to-on : (v w : Vault) (r : Removal) (later : List Setting) (u : ℕ) (mode : Mode) → KeepsRights v w → IsKeptTo v (Some r) later u mode → IsKeptTo w (Some r) later u mode
kept_to-on v w r later u Compliance keep kept = kept
kept_to-on v w r later u Governance keep (inl there) = inl there
kept_to-on v w r later u Governance keep (inr (inl by)) = inr (inl (bypass-on v w r.cause keep by))
kept_to-on v w r later u Governance keep (inr (inr low)) = inr (inr (lowered-on v w later keep low))

kept-on : (v w : Vault) (r : Removal) (later : List Setting) (o : Option Retention) → KeepsRights v w → IsKept v (Some r) later o → IsKept w (Some r) later o
kept-on v w r later None keep kept = tt
kept-on v w r later (Some x) keep kept = kept_to-on v w r later x.until x.mode keep kept

are_kept-on : (v w : Vault) (r : Removal) (ss : List Setting) → KeepsRights v w → AreKept v (Some r) ss → AreKept w (Some r) ss
are_kept-on v w r [] keep all = tt
are_kept-on v w r (s ∷ ss) keep all = (kept-on v w r ss s.lock.retention keep all.0, are_kept-on v w r ss keep all.1)

permitted-on : (v w : Vault) (lock : Lock) (t : ℕ) (c : Cause) → KeepsRights v w → IsPermittedUnder v (guards lock t) c → IsPermittedUnder w (guards lock t) c
permitted-on v w lock t (Request who) keep may = may
permitted-on v w lock t (Bypass who) keep may = (may.0, keep who may.1)
permitted-on v w lock t (Rule rule) keep may = may

pub safe-on : (v w : Vault) (now t : ℕ) (o : Option Removal) (ss : List Setting) → KeepsRights v w → now ≤ t → IsSafe v now o ss → IsSafe w t o ss
safe-on v w now t None ss keep le safe = all_bind-on v w now t (last_lock ss).retention ss keep le safe
safe-on v w now t (Some r) ss keep le safe =
    (are_kept-on v w r ss keep safe.0, safe.1, permitted-on v w (last_lock ss) r.at r.cause keep safe.2)

-- ---- one setting more

lowered-push : (v : Vault) (ss : List Setting) (s : Setting) → IsLowered v ss → IsLowered v (ss ++ s ∷ [])
lowered-push v [] s low = absurd low
lowered-push v (x ∷ xs) s (inl low) = inl low
lowered-push v (x ∷ xs) s (inr low) = inr (lowered-push v xs s low)

lowered-last : (v : Vault) (ss : List Setting) (s : Setting) → s.bypass ≡ true → MayBypass v s.by → IsLowered v (ss ++ s ∷ [])
lowered-last v [] s by may = inl (by, may)
lowered-last v (x ∷ xs) s by may = inr (lowered-last v xs s by may)

pub last_lock-push : (ss : List Setting) (s : Setting) → last_lock (ss ++ s ∷ []) ≡ s.lock
last_lock-push [] s = refl
last_lock-push (x ∷ []) s = refl
last_lock-push (x ∷ y ∷ ys) s = last_lock-push (y ∷ ys) s

covers_itself : (v : Vault) (t : ℕ) (o : Option Retention) → Binds v t o [] o
covers_itself v t None = tt
covers_itself v t (Some r) = inr (inl (refl, omega arith))

-- a retention that is governance by its denial
is_governance : (m : Mode) → denial.Governance ≡ denial_of m → m ≡ Governance
is_governance Governance e = refl
is_governance Compliance e = absurd (cc e)

-- what the old retention covered, after the new one
covered_after : (v : Vault) (t : ℕ) (later : List Setting) (old : Lock) (o : Option Retention) (s : Setting) (r : Retention) → old.retention ≡ o → IsPermittedSetting v t s.by old s → Covers o r → IsBinding v t s.lock.retention (later ++ s ∷ []) r
covered_after v t later old None s r is permitted covers = absurd covers
covered_after v t later old (Some l) s r is permitted covers = by_kind permitted.1
  where
    after_given : (new : Retention) → s.lock.retention ≡ Some new → Covers (Some new) r → IsBinding v t s.lock.retention (later ++ s ∷ []) r
    after_given new given c = let P : Option Retention → Type 0 = λ x. IsBinding v t x (later ++ s ∷ []) r in subst P (sym given) (inr (inl c))

    if_forced : (new : Retention) (b : Bool) → nat_lt t l.until ≡ b → s.lock.retention ≡ Some new → KeepsRetention (Some l) new t → IsBinding v t s.lock.retention (later ++ s ∷ []) r
    if_forced new true e given keeps = let kept = keeps (ltb-true t l.until e) in after_given new given (kept.0 ∙ covers.0, omega (arith, kept.1, covers.1))
    if_forced new false e given keeps = inl (omega (arith, ltb-false t l.until e, covers.1))

    by_permit : (new : Retention) → s.lock.retention ≡ Some new → (KeepsRetention old.retention new t × (s.bypass ≡ false)) ⊎ (LowersGovernance old.retention new t × (s.bypass ≡ true) × MayBypass v s.by) → IsBinding v t s.lock.retention (later ++ s ∷ []) r
    by_permit new given (inl free) = let P : Option Retention → Type 0 = λ x. KeepsRetention x new t in if_forced new (nat_lt t l.until) refl given (subst P is free.0)
    by_permit new given (inr lowers) =
        let P : Option Retention → Type 0 = λ x. LowersGovernance x new t in
        let force = (subst P is lowers.0).0 in
        inr (inr (sym covers.0 ∙ is_governance l.mode force.1, lowered-last v later s lowers.1 lowers.2))

    by_kind : IsRetentionSetting v t old s ⊎ IsHoldSetting old s → IsBinding v t s.lock.retention (later ++ s ∷ []) r
    by_kind (inl given) = by_permit given.new given.given given.kept
    by_kind (inr hold) = after_given l (hold.0 ∙ is) covers

binds_after : (v : Vault) (now t : ℕ) (later : List Setting) (old : Lock) (s : Setting) (o : Option Retention) → now ≤ t → IsPermittedSetting v t s.by old s → Binds v now old.retention later o → Binds v t s.lock.retention (later ++ s ∷ []) o
binds_after v now t later old s None le permitted b = tt
binds_after v now t later old s (Some r) le permitted (inl over) = inl (omega (arith, over, le))
binds_after v now t later old s (Some r) le permitted (inr (inl covers)) = covered_after v t later old old.retention s r refl permitted covers
binds_after v now t later old s (Some r) le permitted (inr (inr low)) = inr (inr (low.0, lowered-push v later s low.1))

pub all_bind-push : (v : Vault) (now t : ℕ) (ss : List Setting) (old : Lock) (s : Setting) → now ≤ t → IsPermittedSetting v t s.by old s → AllBind v now old.retention ss → AllBind v t s.lock.retention (ss ++ s ∷ [])
all_bind-push v now t [] old s le permitted all = (covers_itself v t s.lock.retention, tt)
all_bind-push v now t (x ∷ xs) old s le permitted all =
    (binds_after v now t xs old s x.lock.retention le permitted all.0, all_bind-push v now t xs old s le permitted all.1)

-- ---- the removal

kept_by_removal : (v : Vault) (r : Removal) (later : List Setting) (u : ℕ) (mode : Mode) → (u ≤ r.at) ⊎ (((mode ≡ Governance) × IsBypassOf v r.cause) ⊎ ((mode ≡ Governance) × IsLowered v later)) → IsKeptTo v (Some r) later u mode
kept_by_removal v r later u Compliance (inl there) = there
kept_by_removal v r later u Compliance (inr (inl by)) = absurd (cc (by.0))
kept_by_removal v r later u Compliance (inr (inr low)) = absurd (cc (low.0))
kept_by_removal v r later u Governance (inl there) = inl there
kept_by_removal v r later u Governance (inr (inl by)) = inr (inl by.1)
kept_by_removal v r later u Governance (inr (inr low)) = inr (inr low.1)

removed_covered : (v : Vault) (r : Removal) (later : List Setting) (o : Option Retention) (hold : Bool) (x : Retention) → IsPermittedUnder v (guards (record { retention = o; hold = hold }) r.at) r.cause → Covers o x → (x.until ≤ r.at) ⊎ (((x.mode ≡ Governance) × IsBypassOf v r.cause) ⊎ ((x.mode ≡ Governance) × IsLowered v later))
removed_covered v r later None hold x may covers = absurd covers
removed_covered v r later (Some l) hold x may covers = stated (over_or_bypassed v l hold r.at r.cause may)
  where
    stated : (l.until ≤ r.at) ⊎ ((l.mode ≡ Governance) × IsBypassOf v r.cause) → (x.until ≤ r.at) ⊎ (((x.mode ≡ Governance) × IsBypassOf v r.cause) ⊎ ((x.mode ≡ Governance) × IsLowered v later))
    stated (inl over) = inl (omega (arith, over, covers.1))
    stated (inr by) = inr (inl (sym covers.0 ∙ by.0, by.1))

kept_when_removed : (v : Vault) (now : ℕ) (r : Removal) (later : List Setting) (lock : Lock) (o : Option Retention) → now ≤ r.at → IsPermittedUnder v (guards lock r.at) r.cause → Binds v now lock.retention later o → IsKept v (Some r) later o
kept_when_removed v now r later lock None le may b = tt
kept_when_removed v now r later lock (Some x) le may (inl over) = kept_by_removal v r later x.until x.mode (inl (omega (arith, over, le)))
kept_when_removed v now r later lock (Some x) le may (inr (inl covers)) = kept_by_removal v r later x.until x.mode (removed_covered v r later lock.retention lock.hold x may covers)
kept_when_removed v now r later lock (Some x) le may (inr (inr low)) = kept_by_removal v r later x.until x.mode (inr (inr low))

are_kept_when_removed : (v : Vault) (now : ℕ) (r : Removal) (ss : List Setting) (lock : Lock) → now ≤ r.at → IsPermittedUnder v (guards lock r.at) r.cause → AllBind v now lock.retention ss → AreKept v (Some r) ss
are_kept_when_removed v now r [] lock le may all = tt
are_kept_when_removed v now r (s ∷ ss) lock le may all =
    (kept_when_removed v now r ss lock s.lock.retention le may all.0, are_kept_when_removed v now r ss lock le may all.1)

pub safe-removed : (v : Vault) (now : ℕ) (r : Removal) (ss : List Setting) → now ≤ r.at → IsPermittedUnder v (guards (last_lock ss) r.at) r.cause → IsSafe v now None ss → IsSafe v r.at (Some r) ss
safe-removed v now r ss le may all = (
  are_kept_when_removed v now r ss (last_lock ss) le may all,
  off_hold v (last_lock ss).retention (last_lock ss).hold r.at r.cause may,
  may,
)

-- ---- what a held version has kept

pub kept-held : (v : Vault) (ss : List Setting) → AreKept v None ss
kept-held v [] = tt
kept-held v (s ∷ ss) = (kept_of s.lock.retention, kept-held v ss)
  where
    kept_as : (u : ℕ) (mode : Mode) → IsKeptTo v None ss u mode
    kept_as u Compliance = tt
    kept_as u Governance = inl tt

    kept_of : (o : Option Retention) → IsKept v None ss o
    kept_of None = tt
    kept_of (Some r) = kept_as r.until r.mode
