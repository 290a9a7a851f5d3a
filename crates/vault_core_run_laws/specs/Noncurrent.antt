-- When an entry of a vault became noncurrent, and how many entries stand above it; a run, which looks at the list of one key, sees the same.
use Rattle.std.specs.Prelude.{◌≡◌, ℕ, ◌-◌, ◌&&◌, Bool, nat_le, List, length, map, find, Option, Some, None}
use Rattle.std.specs.List.{list_all}
use Rattle.vault_rules.specs.declared.plan.Held.{Held}
use Rattle.vault_rules.specs.KeyPlan as key
use Rattle.vault_core_model.specs.declared.records.History.{History}
use Rattle.vault_core_model.specs.Vault.{Vault}
use Rattle.vault_core_model.specs.Places.{is_held, newer, is_current}
use Rattle.vault_core_model.specs.Reads.{held_of, entries_of}
use Rattle.vault_core_model.specs.Sound.{Sound}

-- none of these has an id below that of h
abbrev pub is_least : List History → History → Bool
is_least hs h = list_all (λ g. nat_le h.entry.id g.entry.id) hs

-- the successor of h: of the held entries of its key that are newer, the one with the least id
abbrev pub successor : Vault → History → Option History
successor v h = find (is_least (newer v h)) (newer v h)

-- the admission of an entry; where there is none, 0
abbrev pub admission_of : Option History → ℕ
admission_of None = 0
admission_of (Some h) = h.entry.admitted

-- when h became noncurrent: as its successor was admitted (S3 User Guide, "Lifecycle configuration elements")
abbrev pub since : Vault → History → ℕ
since v h = admission_of (successor v h)

-- how many newer noncurrent entries stand above h
abbrev pub rank : Vault → History → ℕ
rank v h = length (newer v h) - 1

-- the held entries of the key of h, as a run looks at them
abbrev pub beside : Vault → History → List Held
beside v h = entries_of v h.entry.bucket h.entry.key

-- what a run finds of h in the list of its key is what the vault's histories say
pub record LooksTheSame (v : Vault) (h : History) : Type 0 where
  pub above : key.newer_among (beside v h) (held_of h) ≡ map held_of (newer v h)
  pub on_top : is_current v h ≡ (is_held h.entry && key.is_current_among (beside v h) (held_of h))
  pub moment : key.since (beside v h) (held_of h) ≡ since v h
  pub place : key.rank (beside v h) (held_of h) ≡ rank v h

abbrev pub PlacesAgree : Type 0
PlacesAgree = (v : Vault) (h : History) → Sound v → LooksTheSame v h
