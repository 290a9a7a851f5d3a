-- What becomes of a caller.
use Rattle.std.specs.Prelude.{◌≡◌, ℕ, Bool, true, List, Some}
use Rattle.vault_core_model.specs.declared.records.Caller.{Caller}
use Rattle.vault_core_model.specs.Vault.{Vault, caller_of}

-- the caller is there, of the same department and with the same rights; once it was closed it stays so
pub record IsStill (v : Vault) (name : List ℕ) (c : Caller) : Type 0 where
  pub closed : Bool
  pub there : caller_of v name ≡ Some (record c { closed = closed })
  pub for_good : c.closed ≡ true → closed ≡ true

-- so is every caller of v in w
abbrev pub KeepsCallers : Vault → Vault → Type 0
KeepsCallers v w = (name : List ℕ) (c : Caller) → caller_of v name ≡ Some c → IsStill w name c
