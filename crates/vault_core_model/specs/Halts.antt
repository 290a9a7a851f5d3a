-- What a check or a command of the code gives, beside what its definition gives.
use Rattle.std.specs.Prelude.{◌≡◌, Bool, true, false, Result, Ok, Err}
use Rattle.vault_base.specs.declared.refusal.Refusal.{Refusal}
use Rattle.vault_base.specs.declared.refusal.Refusal.TheVariants as refusal
use Rattle.vault_core_model.specs.declared.halt.Fault.{Fault}
use Rattle.vault_core_model.specs.declared.halt.Fault.TheVariants as fault
use Rattle.vault_core_model.specs.declared.halt.Halt.{Halt}
use Rattle.vault_core_model.specs.declared.halt.Halt.TheVariants as halt
use Rattle.vault_core_model.specs.declared.reply.Reply.{Reply}
use Rattle.vault_core_model.specs.declared.reply.Reply.TheVariants as reply
use Rattle.vault_core_model.specs.declared.reply.Stop.{Stop}
use Rattle.vault_core_model.specs.declared.reply.Stop.TheVariants as stop

-- a fault says nothing of the definition; a refusal is its refusal
abbrev pub HaltsAs : {X : Type 0} → Halt → Result X Refusal → Type 0
HaltsAs (halt.Fault f) judged = Unit {0}
HaltsAs (halt.Refused r) judged = judged ≡ Err r

-- what a check gives is what the definition gives, or a fault came
abbrev pub ChecksAs : {X : Type 0} → Result X Halt → Result X Refusal → Type 0
ChecksAs (Ok x) judged = judged ≡ Ok x
ChecksAs (Err e) judged = HaltsAs e judged

-- a command answers as the definition does and leaves its vault; else the vault is as before
abbrev pub AnswersAs : {A V : Type 0} → Result A Halt → V → V → Result (A × V) Refusal → Type 0
AnswersAs (Ok a) old new judged = judged ≡ Ok (a, new)
AnswersAs (Err e) old new judged = (new ≡ old) × HaltsAs e judged

abbrev pub is_device_refusal : Refusal → Bool
is_device_refusal refusal.Device = true
is_device_refusal _ = false

abbrev pub is_device_fault : Fault → Bool
is_device_fault fault.Memory = false
is_device_fault fault.Device = true

-- what a keeper gave is that its device failed
abbrev pub is_device_given : {X : Type 0} → Result X Fault → Bool
is_device_given (Ok x) = false
is_device_given (Err f) = is_device_fault f

abbrev pub is_device_halt : Halt → Bool
is_device_halt (halt.Fault f) = is_device_fault f
is_device_halt (halt.Refused r) = is_device_refusal r

-- the answer is that the device failed
abbrev pub is_device : {X : Type 0} → Result X Halt → Bool
is_device (Ok x) = false
is_device (Err e) = is_device_halt e

abbrev pub is_device_stop : Stop → Bool
is_device_stop stop.Memory = false
is_device_stop stop.Device = true
is_device_stop stop.VaultFull = false

-- a check failed
abbrev pub is_refused : {X : Type 0} → Result X Halt → Bool
is_refused (Err (halt.Refused r)) = true
is_refused _ = false

-- the reply is that the device failed
abbrev pub is_device_reply : Reply → Bool
is_device_reply (reply.Done a) = false
is_device_reply (reply.Refused r) = is_device_refusal r
is_device_reply (reply.Stopped n s) = is_device_stop s
