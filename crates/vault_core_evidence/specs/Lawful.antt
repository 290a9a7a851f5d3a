-- A history that commands can have made: every setting and every removal keeps the lock rules.
use Rattle.std.specs.Prelude.{◌≡◌, ◌≤◌, ◌<◌, ◌==◌, ◌&&◌, ℕ, Bool, true, false, not, is_some, List, [], ◌∷◌, Option, Some, None, IsSome, option_and_then, option_map, unwrap_or}
use Rattle.std.specs.List.{AllByRecursion, last_or}
use Rattle.vault_lock.specs.declared.lock.Lock.{Lock}
use Rattle.vault_lock.specs.declared.retention.Retention.{Retention}
use Rattle.vault_lock.specs.Lock.{guards}
use Rattle.vault_core_model.specs.declared.records.Author.{Author}
use Rattle.vault_core_model.specs.declared.records.Author.TheVariants as author
use Rattle.vault_core_model.specs.declared.records.Caller.{Caller}
use Rattle.vault_core_model.specs.declared.records.History.{History}
use Rattle.vault_core_model.specs.declared.records.Removal.{Removal}
use Rattle.vault_core_model.specs.declared.records.Setting.{Setting}
use Rattle.vault_core_model.specs.declared.records.Tenure.{Tenure}
use Rattle.vault_core_model.specs.Rights.{rights_number}
use Rattle.vault_core_model.specs.Vault.{Vault, caller_of, last_lock, registrar, registrar_name}
use Rattle.vault_core_run_laws.specs.Entitled.{IsAdmitter, IsFirstBy, IsSetByRight, IsCausedByRight}
use Rattle.vault_core_run_laws.specs.Permits.{IsPermittedSetting}
use Rattle.vault_core_run_laws.specs.Removals.{IsPermittedUnder}

-- the department of the caller of that name, where the caller is there and has one
abbrev pub department_of : Vault → List ℕ → Option (List ℕ)
department_of v who = option_and_then (λ c. c.dept) (caller_of v who)

-- A version was admitted by a caller of the department that its first tenure names. A marker has no tenure: it was admitted by a caller of any department, or by a rule.
abbrev pub IsOfDepartment : Vault → Bool → Author → List Tenure → Type 0
IsOfDepartment v false (author.Caller name) (t ∷ ts) = department_of v name ≡ Some t.dept
IsOfDepartment v false _ _ = ⊥
IsOfDepartment v true (author.Caller name) ts = IsSome (department_of v name)
IsOfDepartment v true (author.Rule rule) ts = Unit {0}

-- the retention, where there is one, ends after t
abbrev pub EndsAfter : ℕ → Option Retention → Type 0
EndsAfter t None = Unit {0}
EndsAfter t (Some r) = t < r.until

-- the first setting is of the admission, by who admitted the version, and by no bypass; its retention, which may be a default, ends after the admission, and a hold wants the right
pub record IsLawfulFirst (v : Vault) (admitted : ℕ) (by : Author) (s : Setting) : Type 0 where
  pub now : s.at ≡ admitted
  pub free : s.bypass ≡ false
  pub first_by : IsFirstBy v by (s ∷ [])
  pub later : EndsAfter admitted s.lock.retention

-- a setting after another one: not before it in time, permitted over its lock, by a caller with the right to it
pub record IsLawfulNext (v : Vault) (s n : Setting) : Type 0 where
  pub in_order : s.at ≤ n.at
  pub permitted : IsPermittedSetting v n.at n.by s.lock n
  pub by : IsSetByRight v n.at s.lock n

abbrev pub AreLawfulAfter : Vault → Setting → List Setting → Type 0
AreLawfulAfter v s [] = Unit {0}
AreLawfulAfter v s (n ∷ ns) = IsLawfulNext v s n × AreLawfulAfter v n ns

-- the settings of an entry that was admitted then, by that author; a marker has none
abbrev pub AreLawful : Vault → ℕ → Author → List Setting → Type 0
AreLawful v admitted by [] = Unit {0}
AreLawful v admitted by (s ∷ ss) = IsLawfulFirst v admitted by s × AreLawfulAfter v s ss

-- the moment of the last of these settings; without a setting, the moment that is given
abbrev pub last_at : ℕ → List Setting → ℕ
last_at from ss = unwrap_or (option_map (λ s. s.at) (last_or None ss)) from

-- the removal, where there is one, is not before the last setting, and under nothing that guards or by an allowed bypass, by a caller with the right to it; nothing is past the last moment
abbrev pub IsLawfulEnd : Vault → ℕ → Lock → Option Removal → Type 0
IsLawfulEnd v from lock None = from ≤ v.last
IsLawfulEnd v from lock (Some r) =
    (from ≤ r.at) × (r.at ≤ v.last) × IsPermittedUnder v (guards lock r.at) r.cause × IsCausedByRight v r.cause

pub record IsLawful (v : Vault) (h : History) : Type 0 where
  pub admitter : IsAdmitter v h.entry.marker h.entry.by
  pub department : IsOfDepartment v h.entry.marker h.entry.by h.tenures
  pub settings : AreLawful v h.entry.admitted h.entry.by h.settings
  pub end : IsLawfulEnd v (last_at h.entry.admitted h.settings) (last_lock h.settings) h.entry.removal

-- the caller has no department, and the rights that the one caller of a new vault has
abbrev pub is_registrar : Option Caller → Bool
is_registrar None = false
is_registrar (Some c) = not (is_some c.dept) && rights_number c.rights == rights_number registrar.rights

-- that caller is there; it may be closed
abbrev pub has_registrar : Vault → Bool
has_registrar v = is_registrar (caller_of v registrar_name)

-- every history of the vault
abbrev pub Lawful : Vault → Type 0
Lawful v = AllByRecursion (IsLawful v) v.histories
