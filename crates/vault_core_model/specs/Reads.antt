-- What a keeper reads of a vault.
use Rattle.std.specs.Prelude.{ℕ, List, [], ◌∷◌, length, map, filter, take, reverse, Bool, true, nat_lt, Option, Some, None, option_map, option_and_then, unwrap_or, false, not}
use Rattle.vault_lock.specs.declared.lock.Lock.{Lock}
use Rattle.vault_base.specs.declared.content.Content.{Content}
use Rattle.vault_rules.specs.declared.plan.Held.{Held}
use Rattle.vault_core_model.specs.declared.records.Entry.{Entry}
use Rattle.vault_core_model.specs.declared.records.Head.{Head}
use Rattle.vault_core_model.specs.declared.records.History.{History}
use Rattle.vault_core_model.specs.declared.records.LastSetting.{LastSetting}
use Rattle.vault_core_model.specs.declared.records.Setting.{Setting}
use Rattle.vault_core_model.specs.declared.records.Tenure.{Tenure}
use Rattle.vault_core_model.specs.Vault.{Vault, history_of, last_lock}
use Rattle.vault_core_model.specs.Places.{held_at, is_held, comes_after, keys_of}

-- the entry of that id, held or removed
abbrev pub entry_of : Vault → ℕ → Option Entry
entry_of v id = option_map (λ h. h.entry) (history_of v id)

-- the last lock of these settings and how many they are; none where there is no setting
abbrev pub last_setting : List Setting → Option LastSetting
last_setting [] = None
last_setting (s ∷ ss) = Some (record { lock = last_lock (s ∷ ss); count = length (s ∷ ss) })

abbrev pub setting_of : Vault → ℕ → Option LastSetting
setting_of v id = option_and_then (λ h. last_setting h.settings) (history_of v id)

-- the lock that a last setting gives; without one there is none
abbrev pub lock_by : Option LastSetting → Lock
lock_by None = record { retention = None; hold = false }
lock_by (Some s) = s.lock

-- the lock of the entry of that id; a marker is not locked
abbrev pub lock_of : Vault → ℕ → Lock
lock_of v id = lock_by (setting_of v id)

-- how many settings a version has
abbrev pub count_of_settings : Option LastSetting → ℕ
count_of_settings None = 0
count_of_settings (Some s) = s.count

-- the settings of the entry of that id, oldest first; a marker has none
abbrev pub settings_of : Vault → ℕ → List Setting
settings_of v id = unwrap_or (option_map (λ h. h.settings) (history_of v id)) []

-- the tenures of the entry of that id; a marker has none
abbrev pub tenures_of : Vault → ℕ → List Tenure
tenures_of v id = unwrap_or (option_map (λ h. h.tenures) (history_of v id)) []

-- the content of a held version
abbrev pub content_of : Vault → ℕ → Option Content
content_of v id = option_and_then (λ h. h.content) (history_of v id)

-- the newest of these entries, which come oldest first, and how many there are
abbrev pub head_over : List History → Option Head
head_over [] = None
head_over (h ∷ []) = Some (record { newest = h.entry.id; count = 1 })
head_over (h ∷ g ∷ gs) = option_map (λ x. record { newest = x.newest; count = length (h ∷ g ∷ gs) }) (head_over (g ∷ gs))

abbrev pub head_of : Vault → List ℕ → List ℕ → Option Head
head_of v bucket key = head_over (held_at v bucket key)

-- what a lifecycle run looks at of a held entry
abbrev pub held_of : History → Held
held_of h = record { id = h.entry.id; marker = h.entry.marker; size = h.entry.size; admitted = h.entry.admitted; lock = last_lock h.settings }

-- the held entries of a key, oldest first
abbrev pub entries_of : Vault → List ℕ → List ℕ → List Held
entries_of v bucket key = map held_of (held_at v bucket key)

-- the bucket's keys after that one
abbrev pub later_keys : Vault → List ℕ → List ℕ → List (List ℕ)
later_keys v bucket after = filter (λ k. comes_after k after) (keys_of v bucket)

-- the first of them
abbrev pub keys_after : Vault → List ℕ → List ℕ → ℕ → List (List ℕ)
keys_after v bucket after most = take most (later_keys v bucket after)

-- the entry of that id is older than that one; each is where none is given
abbrev pub is_older : Option ℕ → ℕ → Bool
is_older None id = true
is_older (Some than) id = nat_lt id than

-- the ids of the key's held entries that are older than that one, newest first: at most that many
abbrev pub ids_before : Vault → List ℕ → List ℕ → Option ℕ → ℕ → List ℕ
ids_before v bucket key than most =
    take most (filter (is_older than) (reverse (map (λ h. h.entry.id) (held_at v bucket key))))

-- the names of the first buckets after that text, by their bytes
abbrev pub buckets_after : Vault → List ℕ → ℕ → List (List ℕ)
buckets_after v after most = take most (filter (λ name. comes_after name after) (map (λ b. b.name) v.buckets))

-- the removed entries, by rising id
abbrev pub removed_entries : Vault → List Entry
removed_entries v = map (λ h. h.entry) (filter (λ h. not (is_held h.entry)) v.histories)
