-- What a permitted removal says of the lock that counts.
use Rattle.std.proofs.Common.{◌≡◌, ℕ, ◌≤◌, List, [], ◌∷◌, Bool, true, false, Option, Some, refl, subst, inl, inr}
use Rattle.std.specs.Prelude.{◌⊎◌, nat_lt}
use Rattle.std.proofs.lemmas.Bool.{ltb-false}
use Rattle.vault_lock.specs.declared.lock.Denial.{Denial}
use Rattle.vault_lock.specs.declared.lock.Denial.TheVariants as denial
use Rattle.vault_lock.specs.declared.lock.Denial.TheVariants.{Hold}
use Rattle.vault_lock.specs.declared.retention.Mode.{Mode}
use Rattle.vault_lock.specs.declared.retention.Mode.TheVariants.{Governance, Compliance}
use Rattle.vault_lock.specs.declared.retention.Retention.{Retention}
use Rattle.vault_lock.specs.Lock.{guards}
use Rattle.vault_core_model.specs.declared.records.Cause.{Cause}
use Rattle.vault_core_model.specs.declared.records.Cause.TheVariants.{Request, Bypass, Rule}
use Rattle.vault_core_model.specs.Vault.{Vault}
use Rattle.vault_core_run_laws.specs.Removals.{IsPermittedUnder}
use Rattle.vault_core_run_laws.specs.Worm.{IsBypassOf}

-- the guards of a hold, and of a retention of that mode that is in force or not
guards_by : Bool → Bool → Mode → List Denial
guards_by true true Compliance = Hold ∷ denial.Compliance ∷ []
guards_by true true Governance = Hold ∷ denial.Governance ∷ []
guards_by true false mode = Hold ∷ []
guards_by false true Compliance = denial.Compliance ∷ []
guards_by false true Governance = denial.Governance ∷ []
guards_by false false mode = []

guards-by : (mode : Mode) (until t : ℕ) (hold force : Bool) → nat_lt t until ≡ force → guards (record { retention = Some (record { mode = mode; until = until }); hold = hold }) t ≡ guards_by hold force mode
unfolding guards_by
guards-by Compliance until t true true e = rw e refl
guards-by Governance until t true true e = rw e refl
guards-by Compliance until t true false e = rw e refl
guards-by Governance until t true false e = rw e refl
guards-by Compliance until t false true e = rw e refl
guards-by Governance until t false true e = rw e refl
guards-by Compliance until t false false e = rw e refl
guards-by Governance until t false false e = rw e refl

-- a removal was permitted while a retention of that mode was in force or not
permitted_by : (v : Vault) (hold force : Bool) (mode : Mode) (c : Cause) → IsPermittedUnder v (guards_by hold force mode) c → (force ≡ false) ⊎ ((mode ≡ Governance) × IsBypassOf v c)
unfolding guards_by
permitted_by v hold false mode c may = inl refl
permitted_by v true true Compliance (Request who) may = absurd (cc may)
permitted_by v true true Compliance (Bypass who) may = absurd (cc (may.0))
permitted_by v true true Compliance (Rule rule) may = absurd (cc may)
permitted_by v true true Governance (Request who) may = absurd (cc may)
permitted_by v true true Governance (Bypass who) may = absurd (cc (may.0))
permitted_by v true true Governance (Rule rule) may = absurd (cc may)
permitted_by v false true Compliance (Request who) may = absurd (cc may)
permitted_by v false true Compliance (Bypass who) may = absurd (cc (may.0))
permitted_by v false true Compliance (Rule rule) may = absurd (cc may)
permitted_by v false true Governance (Request who) may = absurd (cc may)
permitted_by v false true Governance (Bypass who) may = inr (refl, may.1)
permitted_by v false true Governance (Rule rule) may = absurd (cc may)

-- the retention is over, or is governance, and is bypassed by a caller who may
pub over_or_bypassed : (v : Vault) (r : Retention) (hold : Bool) (t : ℕ) (c : Cause) → IsPermittedUnder v (guards (record { retention = Some r; hold = hold }) t) c → (r.until ≤ t) ⊎ ((r.mode ≡ Governance) × IsBypassOf v c)
over_or_bypassed v r hold t c may =
    let P : List Denial → Type 0 = λ ds. IsPermittedUnder v ds c in
    stated (permitted_by v hold (nat_lt t r.until) r.mode c (subst P (guards-by r.mode r.until t hold (nat_lt t r.until) refl) may))
  where
    stated : (nat_lt t r.until ≡ false) ⊎ ((r.mode ≡ Governance) × IsBypassOf v c) → (r.until ≤ t) ⊎ ((r.mode ≡ Governance) × IsBypassOf v c)
    stated (inl over) = inl (ltb-false t r.until over)
    stated (inr bypassed) = inr bypassed

-- the hold is off
pub off_hold : (v : Vault) (o : Option Retention) (hold : Bool) (t : ℕ) (c : Cause) → IsPermittedUnder v (guards (record { retention = o; hold = hold }) t) c → hold ≡ false
off_hold v o false t c may = refl
off_hold v o true t (Request who) may = absurd (cc may)
off_hold v o true t (Bypass who) may = absurd (cc (may.0))
off_hold v o true t (Rule rule) may = absurd (cc may)
