-- What a call leaves of what keeps a vault.
use Rattle.std.specs.Prelude.{◌≡◌, ℕ, ◌+◌, ◌<◌, Bool, true, false, nat_lt, if◌then◌else◌, List, [], ◌∷◌, Result}
use Rattle.vault_core_model.specs.declared.halt.Fault.{Fault}
use Rattle.vault_core_model.specs.declared.kept.Kept.{Ghosts}
use Rattle.vault_core_model.specs.declared.reply.Reply.{Reply}
use Rattle.vault_core_model.specs.Halts.{is_device_given, is_device_reply}
use Rattle.vault_core_model.specs.Vault.{Vault}

-- 2^64 - 1, the greatest value of a count
abbrev pub largest_count : ℕ
largest_count = 18446744073709551615

-- a count of failures, with one more where there was one; it stays at its greatest value
abbrev pub count_after : ℕ → Bool → ℕ
count_after n false = n
count_after n true = if nat_lt n largest_count then n + 1 else n

-- with one more for each reply that reports a failure
abbrev pub count_after_all : ℕ → List Reply → ℕ
count_after_all n [] = n
count_after_all n (reply ∷ replies) = count_after_all (count_after n (is_device_reply reply)) replies

-- a count of failures rose, or stands at its greatest value
abbrev pub RoseOrIsFull : ℕ → ℕ → Type 0
RoseOrIsFull old new = old < largest_count → old < new

-- whether its device has returned what was written, its vault, and how often its device failed
pub record Standing : Type 1 where
  pub is_honest : Type 0
  pub vault : Vault
  pub count : ℕ

abbrev pub standing : {K : Type 0} → Ghosts K → K → Standing
standing g k = record { is_honest = g.is_honest k; vault = g.vault k; count = g.count k }

-- it is honest after the call only if it was before, and the count rises by one exactly where the call reports that the device failed
pub record IsLeft (old new : Standing) (failed : Bool) : Type 0 where
  pub honest : new.is_honest → old.is_honest
  pub counted : new.count ≡ count_after old.count failed

-- the same, and the vault is as it was
pub record IsLeftSame (old new : Standing) (failed : Bool) : Type 0 where
  pub same : new.vault ≡ old.vault
  pub honest : new.is_honest → old.is_honest
  pub counted : new.count ≡ count_after old.count failed

-- what a command leaves, and whether it reports that the device failed
abbrev pub Leaves : {K : Type 0} → Ghosts K → K → K → Bool → Type 0
Leaves g old new failed = IsLeft (standing g old) (standing g new) failed

-- what a check leaves
abbrev pub LeavesSame : {K : Type 0} → Ghosts K → K → K → Bool → Type 0
LeavesSame g old new failed = IsLeftSame (standing g old) (standing g new) failed

-- what a read leaves that gives this
abbrev pub ReadsAs : {K X : Type 0} → Ghosts K → K → K → Result X Fault → Type 0
ReadsAs g old new result = LeavesSame g old new (is_device_given result)
