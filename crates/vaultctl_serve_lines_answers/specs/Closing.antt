-- Who ends a server by a line.
use Rattle.std.specs.Prelude.{ℕ, ◌≡◌, List, Option, Some, Result, IsOk}
use Rattle.vault_base.specs.declared.refusal.Refusal.{Refusal}
use Rattle.vault_core_model.specs.Checks.{◌>>=◌, administrator}
use Rattle.vault_core_model.specs.Vault.{Vault}
use Rattle.vault_core_model.specs.declared.records.Caller.{Caller}
use Rattle.vault_lines_read.specs.Stamped.{clock_of, closer_of}

-- how the line that asks for the end is judged: by the clock, and then by the caller's right to administer
abbrev pub closing : Vault → Option ℕ → List ℕ → Result Caller Refusal
closing v moment who = do
  at ← clock_of moment
  administrator v at who

-- the line asks for the end, and is by a caller who has the right to administer
abbrev pub MayEnd : Vault → Option ℕ → List ℕ → Type 0
MayEnd v moment bytes = (who : List ℕ) × (closer_of bytes ≡ Some who) × IsOk (closing v moment who)

-- some line ended the server
abbrev pub IsEnded : Vault → Type 0
IsEnded v = (moment : Option ℕ) × (bytes : List ℕ) × MayEnd v moment bytes
