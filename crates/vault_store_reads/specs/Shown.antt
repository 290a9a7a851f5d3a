-- What rows and records say of a vault.
use Rattle.std.specs.Prelude.{◌≡◌, ℕ, ◌==◌, not, Bool, true, false, List, [], ◌∷◌, map, filter, reverse, Option, None, Some, option_map, option_to_list}
use Rattle.sqlite_value.specs.declared.value.Value.TheVariants.{Text}
use Rattle.sqlite_value.specs.Order.{Row}
use Rattle.vault_base.specs.declared.content.Content.{Content}
use Rattle.vault_base.specs.declared.content.Content.TheVariants.{Inside, External}
use Rattle.vault_rules.specs.declared.plan.Held.{Held}
use Rattle.vault_rules.specs.declared.rule.Rule.{Rule}
use Rattle.vault_core_model.specs.declared.records.Entry.{Entry}
use Rattle.vault_core_model.specs.declared.records.LastSetting.{LastSetting}
use Rattle.vault_core_model.specs.declared.records.Removal.{Removal}
use Rattle.vault_core_model.specs.declared.records.Tenure.{Tenure}
use Rattle.vault_core_model.specs.Places.{held_at}
use Rattle.vault_core_model.specs.Reads.{head_over, lock_of}
use Rattle.vault_core_model.specs.Vault.{Vault}
use Rattle.vault_audit_model.specs.declared.rows.RuleRow.{RuleRow}
use Rattle.vault_audit_model.specs.declared.rows.TenureRow.{TenureRow}
use Rattle.vault_audit_model.specs.Rows.{retention_mode, retention_until, tenure_row}
use Rattle.vault_audit_model.specs.Values.{number, flag}
use Rattle.vault_store_reads.specs.declared.rows_in_order.shown.HeldRow.{HeldRow}

-- the place of a version's last setting, which is how many it has, and its lock
abbrev pub last_row : LastSetting → Row
last_row s = number s.count ∷ retention_mode s.lock.retention ∷ retention_until s.lock.retention ∷ flag s.lock.hold ∷ []

-- a held entry without its lock
abbrev pub held_row : HeldRow → Row
held_row h = number h.id ∷ flag h.marker ∷ number h.size ∷ number h.admitted ∷ []

abbrev pub without_lock : Held → HeldRow
without_lock h = record { id = h.id; marker = h.marker; size = h.size; admitted = h.admitted }

abbrev pub entry_shown : Held → Row
entry_shown h = held_row (without_lock h)

abbrev pub key_row : List ℕ → Row
key_row key = Text key ∷ []

abbrev pub name_row : List ℕ → Row
name_row name = Text name ∷ []

abbrev pub id_row : ℕ → Row
id_row id = number id ∷ []

-- the ids of a key's held entries, the newest first
abbrev pub ids_at : Vault → List ℕ → List ℕ → List ℕ
ids_at v bucket key = reverse (map (λ h. h.entry.id) (held_at v bucket key))

-- the row of that tenure; none where there is no tenure
abbrev pub ShowsTenure : Option Tenure → List Row → Type 0
ShowsTenure tenure rows = (last : Option TenureRow) × (rows ≡ map tenure_row (option_to_list last)) × (option_map (λ x. x.tenure) last ≡ tenure)

-- the rules of these rows; no rule is no set of rules
abbrev pub set_of : List RuleRow → Option (List Rule)
set_of [] = None
set_of (r ∷ rs) = Some (map (λ x. x.rule) (r ∷ rs))

-- the entry with the lock that the last setting of its id gives
abbrev pub with_lock_in : Vault → HeldRow → Held
with_lock_in v h = record { id = h.id; marker = h.marker; size = h.size; admitted = h.admitted; lock = lock_of v h.id }

-- the newest held entry of a key besides this one
abbrev pub newest_but : Vault → List ℕ → List ℕ → ℕ → Option ℕ
newest_but v bucket key id = option_map (λ head. head.newest) (head_over (filter (λ h. not (h.entry.id == id)) (held_at v bucket key)))

-- the bytes of a content that the tables have
abbrev pub bytes_inside : Option Content → Option (List ℕ)
bytes_inside None = None
bytes_inside (Some (Inside bytes)) = Some bytes
bytes_inside (Some (External r)) = None

-- a content that is kept outside, of the size and digest of its version; a removed version has no content, nor has a marker
abbrev pub external_as : Bool → Option Removal → ℕ → Option (List ℕ) → Option Content
external_as true removal size digest = None
external_as false (Some r) size digest = None
external_as false None size digest = option_map (λ d. External (record { size = size; digest = d })) digest

abbrev pub external_of : Entry → Option Content
external_of e = external_as e.marker e.removal e.size e.digest
