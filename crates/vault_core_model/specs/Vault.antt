-- The vault: one list of whole histories, removed ones included, and the records beside it.
use Rattle.std.specs.Prelude.{ℕ, ◌+◌, List, [], ◌∷◌, length, true, false, ◌==◌, ◌&&◌, Bool, Option, None, find, option_map, option_and_then, unwrap_or, codes}
use Rattle.std.specs.List.{last_or, list_any}
use Rattle.std.specs.Str.{bytes_eq}
use Rattle.vault_lock.specs.declared.lock.Lock.{Lock}
use Rattle.vault_rules.specs.declared.rule.Rule.{Rule}
use Rattle.vault_core_model.specs.declared.records.Caller.{Caller}
use Rattle.vault_core_model.specs.declared.records.Bucket.{Bucket}
use Rattle.vault_core_model.specs.declared.records.BucketConfig.{BucketConfig}
use Rattle.vault_core_model.specs.declared.records.Setting.{Setting}
use Rattle.vault_core_model.specs.declared.records.History.{History}
use Rattle.vault_core_model.specs.declared.records.Note.{Note}
use Rattle.vault_core_model.specs.Rights.{no_rights}

-- The last moment is the reading of the last change. The history with id k stands at place k. The moves of buckets are counted. Whether it registers contents that are kept outside is fixed as it is made.
pub record Vault : Type 0 where
  pub external : Bool
  pub last : ℕ
  pub departments : List (List ℕ)
  pub callers : List Caller
  pub buckets : List Bucket
  pub notes : List Note
  pub histories : List History
  pub moves : ℕ

-- the name of the one caller of a new vault
abbrev pub registrar_name : List ℕ
registrar_name = codes "registrar"

-- that caller, with the right to administer and no department
abbrev pub registrar : Caller
registrar =
    record { name = registrar_name; dept = None; rights = record no_rights { admin = true }; closed = false }

-- a new vault, which registers contents that are kept outside, or doesn't
abbrev pub opening_of : Bool → Vault
opening_of external =
    record { external = external; last = 0; departments = []; callers = registrar ∷ []; buckets = []; notes = []; histories = []; moves = 0 }

-- a new vault that keeps every content itself
abbrev pub opening : Vault
opening = opening_of false

-- whether there is such a department
abbrev pub has_department : Vault → List ℕ → Bool
has_department v name = list_any (λ d. bytes_eq d name) v.departments

-- the caller of that name
abbrev pub caller_of : Vault → List ℕ → Option Caller
caller_of v name = find (λ c. bytes_eq c.name name) v.callers

-- the bucket of that name among these, and whose it is
abbrev pub bucket_in : List Bucket → List ℕ → Option Bucket
bucket_in buckets name = find (λ b. bytes_eq b.name name) buckets

abbrev pub config_in : List Bucket → List ℕ → Option BucketConfig
config_in buckets name = option_map (λ b. b.config) (bucket_in buckets name)

-- the department and the default retention of the bucket of that name
abbrev pub config_of : Vault → List ℕ → Option BucketConfig
config_of v name = config_in v.buckets name

-- the lifecycle rules of the bucket of that name, in configuration order; none where it has none
abbrev pub rules_of : Vault → List ℕ → Option (List Rule)
rules_of v name = option_and_then (λ b. b.rules) (bucket_in v.buckets name)

-- the note of an accepted line of an intake batch
abbrev pub note_of : Vault → List ℕ → List ℕ → ℕ → Option Note
note_of v bucket batch line = find (λ n. bytes_eq n.bucket bucket && (bytes_eq n.batch batch && n.line == line)) v.notes

-- the history of that id, held or removed
abbrev pub history_of : Vault → ℕ → Option History
history_of v id = find (λ h. h.entry.id == id) v.histories

-- the id that the next entry gets
abbrev pub next_id : Vault → ℕ
next_id v = length v.histories + 1

-- the lock of the last of these settings; a marker has none
abbrev pub last_lock : List Setting → Lock
last_lock ss = unwrap_or (option_map (λ s. s.lock) (last_or None ss)) (record { retention = None; hold = false })
