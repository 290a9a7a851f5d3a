-- Which removals are permitted.
use Rattle.std.specs.Prelude.{◌≡◌, List, [], ◌∷◌, Option, Some, None}
use Rattle.std.specs.List.{AllByRecursion}
use Rattle.vault_lock.specs.declared.lock.Lock.{Lock}
use Rattle.vault_lock.specs.declared.lock.Denial.{Denial}
use Rattle.vault_lock.specs.declared.lock.Denial.TheVariants.{Governance}
use Rattle.vault_lock.specs.Lock.{guards}
use Rattle.vault_core_model.specs.declared.records.Cause.{Cause}
use Rattle.vault_core_model.specs.declared.records.Cause.TheVariants.{Request, Bypass, Rule}
use Rattle.vault_core_model.specs.declared.records.Removal.{Removal}
use Rattle.vault_core_model.specs.Vault.{Vault, last_lock}
use Rattle.vault_core_run_laws.specs.Bypass.{MayBypass}

-- a request or a rule removes what nothing guards; a bypass what governance alone guards, by a caller who may (S3 User Guide, "Locking objects with Object Lock")
abbrev pub IsPermittedUnder : Vault → List Denial → Cause → Type 0
IsPermittedUnder v guarding (Request who) = guarding ≡ []
IsPermittedUnder v guarding (Bypass who) = (guarding ≡ Governance ∷ []) × MayBypass v who
IsPermittedUnder v guarding (Rule rule) = guarding ≡ []

-- the removal, where there is one, was permitted by the lock
abbrev pub WasPermitted : Vault → Lock → Option Removal → Type 0
WasPermitted v lock None = Unit {0}
WasPermitted v lock (Some r) = IsPermittedUnder v (guards lock r.at) r.cause

-- each entry that was removed stood outside retention and hold then, or under governance alone and was removed by a permitted bypass; a marker has no lock
abbrev pub RemovalsWerePermitted : Vault → Type 0
RemovalsWerePermitted v = AllByRecursion (λ h. WasPermitted v (last_lock h.settings) h.entry.removal) v.histories
