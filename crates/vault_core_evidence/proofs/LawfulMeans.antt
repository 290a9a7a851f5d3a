-- In a lawful vault every removal was permitted, and every retention and hold was kept.
use Rattle.std.proofs.Common.{◌≡◌, ℕ, List, [], ◌∷◌, ◌++◌, false, Option, Some, None, refl, subst, inr, arith, append_assoc}
use Rattle.vault_core_model.specs.declared.records.Author.{Author}
use Rattle.vault_core_model.specs.declared.records.History.{History}
use Rattle.vault_core_model.specs.declared.records.Removal.{Removal}
use Rattle.vault_core_model.specs.declared.records.Setting.{Setting}
use Rattle.vault_core_model.specs.Vault.{Vault, last_lock}
use Rattle.vault_core_laws.proofs.Lists.{All-weaker}
use Rattle.vault_core_run_laws.specs.Removals.{WasPermitted, RemovalsWerePermitted}
use Rattle.vault_core_run_laws.specs.Worm.{AreKept, HoldIsKept, IsWorm, Worm}
use Rattle.vault_core_run_laws.proofs.Settings.{AllBind, IsSafe, all_bind-push, safe-removed, kept-held}
use Rattle.vault_core_evidence.specs.Lawful.{AreLawfulAfter, AreLawful, last_at, IsLawfulEnd, IsLawful, Lawful}

was_permitted : (v : Vault) (h : History) (o : Option Removal) → IsLawfulEnd v (last_at h.entry.admitted h.settings) (last_lock h.settings) o → WasPermitted v (last_lock h.settings) o
was_permitted v h None end = tt
was_permitted v h (Some r) end = end.2

pub Lawful-permitted : (v : Vault) → Lawful v → RemovalsWerePermitted v
Lawful-permitted v lawful =
    All-weaker (IsLawful v) (λ h. WasPermitted v (last_lock h.settings) h.entry.removal) (λ h one. was_permitted v h h.entry.removal one.end) v.histories lawful

-- ---- what the settings bind

first_binds : (v : Vault) (s : Setting) → s.bypass ≡ false → AllBind v s.at s.lock.retention (s ∷ [])
first_binds v s free = all_bind-push v s.at s.at [] s.lock s (omega arith) (refl, inr (refl, free)) tt

later_bind : (v : Vault) (from : ℕ) (done : List Setting) (s : Setting) (rest : List Setting) → AllBind v s.at s.lock.retention (done ++ s ∷ []) → AreLawfulAfter v s rest → AllBind v (last_at from (s ∷ rest)) (last_lock (s ∷ rest)).retention (done ++ s ∷ rest)
later_bind v from done s [] bind after = bind
later_bind v from done s (n ∷ ns) bind after =
    let P : List Setting → Type 0 = λ ss. AllBind v (last_at from (n ∷ ns)) (last_lock (n ∷ ns)).retention ss in
    subst P (append_assoc done (s ∷ []) (n ∷ ns))
    (later_bind v from (done ++ s ∷ []) n ns (all_bind-push v s.at n.at (done ++ s ∷ []) s.lock n after.0.in_order after.0.permitted bind) after.1)

settings_bind : (v : Vault) (admitted : ℕ) (by : Author) (ss : List Setting) → AreLawful v admitted by ss → IsSafe v (last_at admitted ss) None ss
settings_bind v admitted by [] lawful = tt
settings_bind v admitted by (s ∷ ss) lawful = later_bind v admitted [] s ss (first_binds v s lawful.0.free) lawful.1

worm_by : (v : Vault) (admitted : ℕ) (by : Author) (ss : List Setting) (o : Option Removal) → AreLawful v admitted by ss → IsLawfulEnd v (last_at admitted ss) (last_lock ss) o → AreKept v o ss × HoldIsKept o (last_lock ss).hold
worm_by v admitted by ss None lawful end = (kept-held v ss, tt)
worm_by v admitted by ss (Some r) lawful end =
    let safe = safe-removed v (last_at admitted ss) r ss end.0 end.2 (settings_bind v admitted by ss lawful) in
    (safe.0, safe.1)

pub Lawful-Worm : (v : Vault) → Lawful v → Worm v
Lawful-Worm v lawful = All-weaker (IsLawful v) (IsWorm v) (λ h one. worm_by v h.entry.admitted h.entry.by h.settings h.entry.removal one.settings one.end) v.histories lawful
