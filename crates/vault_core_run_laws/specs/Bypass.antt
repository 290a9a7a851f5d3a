-- Who may bypass a governance retention.
use Rattle.std.specs.Prelude.{ℕ, Bool, false, List, Option, Some, None, IsTrue}
use Rattle.vault_core_model.specs.declared.records.Caller.{Caller}
use Rattle.vault_core_model.specs.Vault.{Vault, caller_of}

-- a caller with the right to bypass
abbrev pub has_bypass : Option Caller → Bool
has_bypass None = false
has_bypass (Some c) = c.rights.bypass

-- the caller of that name has the right to bypass; also where it is closed by now, since rights never change
abbrev pub MayBypass : Vault → List ℕ → Type 0
MayBypass v who = IsTrue (has_bypass (caller_of v who))
