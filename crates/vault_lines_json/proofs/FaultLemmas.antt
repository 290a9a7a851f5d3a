-- A first step that failed, and what was said of the steps together.
use Rattle.std.proofs.Common.{◌≡◌, refl}
use Rattle.std.specs.Prelude.{Result, Ok, Err}
use Rattle.std.specs.Result.{IsErrAnd}
use Rattle.vault_base.specs.declared.refusal.Refusal.{Refusal}
use Rattle.vault_values.specs.declared.fault.LineFault.{LineFault}
use Rattle.vault_values.specs.declared.fault.LineFault.TheVariants as fault
use Rattle.vault_values.specs.Fault.{◌>>=◌, FailsAs, Gives}

failed : {Y Z : Type 0} (e : LineFault) (said : Result Z Refusal) (f : Z → Result Y Refusal) → FailsAs e said → FailsAs e (said >>= f)
failed fault.Memory said f e = tt
failed (fault.Refused r) said f e = rw e refl

pub gives-failed : {Y Z : Type 0} (result : Result Y LineFault) (e : LineFault) (said : Result Z Refusal) (f : Z → Result Y Refusal) → IsErrAnd result (λ x. x ≡ e) → FailsAs e said → Gives (λ x. x) result (said >>= f)
gives-failed (Ok y) e said f is_e fails = absurd is_e
gives-failed (Err x) e said f is_e fails = rw is_e (failed e said f fails)
