-- Steps that may be refused, and what a function says of them.
use Rattle.std.specs.Prelude.{Option, Some, None, Result, Ok, Err, ◌≡◌, ⊤}
use Rattle.vault_base.specs.declared.refusal.Refusal.{Refusal}
use Rattle.vault_base.specs.declared.refusal.Refusal.TheVariants.{InvalidArgument}
-- the second step, if the first gave a value
pub use Rattle.vault_core_model.specs.Checks.{◌>>=◌}
use Rattle.vault_values.specs.declared.fault.LineFault.{LineFault}
use Rattle.vault_values.specs.declared.fault.LineFault.TheVariants as fault

-- the value, or else that refusal
abbrev pub or_refused : {A E : Type 0} → Refusal → Result A E → Result A Refusal
or_refused refusal (Ok x) = Ok x
or_refused refusal (Err e) = Err refusal

abbrev pub or_invalid : {A : Type 0} → Option A → Result A Refusal
or_invalid (Some x) = Ok x
or_invalid None = Err InvalidArgument

-- what is left out stays so
abbrev pub if_given : {A B : Type 0} → (A → Result B Refusal) → Option A → Result (Option B) Refusal
if_given read None = Ok None
if_given read (Some x) = do
  y ← read x
  Ok (Some y)

-- a call failed as it was said to, unless memory ran out
abbrev pub FailsAs : {Y : Type 0} → LineFault → Result Y Refusal → Type 0
FailsAs fault.Memory said = ⊤
FailsAs (fault.Refused f) said = said ≡ Err f

-- a call gave what was said, as the function sees it, unless memory ran out
abbrev pub Gives : {X Y : Type 0} → (X → Y) → Result X LineFault → Result Y Refusal → Type 0
Gives view (Ok x) said = said ≡ Ok (view x)
Gives view (Err e) said = FailsAs e said
