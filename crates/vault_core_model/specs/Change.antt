-- The vault after one change.
use Rattle.std.specs.Prelude.{ℕ, ◌+◌, true, List, [], ◌∷◌, ◌++◌, ◌==◌, map, Some, None, if◌then◌else◌, Option}
use Rattle.std.specs.Str.{bytes_eq}
use Rattle.vault_lock.specs.declared.retention.Default.{Default}
use Rattle.vault_rules.specs.declared.rule.Rule.{Rule}
use Rattle.vault_core_model.specs.declared.records.Bucket.{Bucket}
use Rattle.vault_core_model.specs.declared.records.Caller.{Caller}
use Rattle.vault_core_model.specs.declared.records.Setting.{Setting}
use Rattle.vault_core_model.specs.declared.records.History.{History}
use Rattle.vault_core_model.specs.declared.records.Removal.{Removal}
use Rattle.vault_core_model.specs.declared.records.Tenure.{Tenure}
use Rattle.vault_core_model.specs.declared.change.Change.{Change}
use Rattle.vault_core_model.specs.declared.change.Change.TheVariants.{AddDept, AddCaller, CloseCaller, AddBucket, MoveBucket, SetDefault, SetRules, Admit, AddSetting, Remove}
use Rattle.vault_core_model.specs.Order.{name_cmp, caller_cmp, bucket_cmp, note_cmp, placed, placed_if_given}
use Rattle.vault_core_model.specs.Places.{is_held_version_in}
use Rattle.vault_core_model.specs.Vault.{Vault}

-- a bucket of a department, without default retention and lifecycle rules
abbrev pub new_bucket : List ℕ → List ℕ → Bucket
new_bucket name dept = record { name = name; config = record { dept = dept; default = None }; rules = None }

-- the caller closed, where it has that name
abbrev pub closed_if : List ℕ → Caller → Caller
closed_if name c = if bytes_eq c.name name then record c { closed = true } else c

-- the bucket with that default, where it has that name
abbrev pub with_default : List ℕ → Option Default → Bucket → Bucket
with_default name default b = if bytes_eq b.name name then record b { config = record { dept = b.config.dept; default = default } } else b

-- the bucket with those rules, where it has that name
abbrev pub with_rules : List ℕ → Option (List Rule) → Bucket → Bucket
with_rules name rules b = if bytes_eq b.name name then record b { rules = rules } else b

-- the history with one setting more, where it has that id
abbrev pub with_setting : ℕ → Setting → History → History
with_setting id s h = if h.entry.id == id then record h { settings = h.settings ++ s ∷ [] } else h

-- the history removed and without its content
abbrev pub removed_by : Removal → History → History
removed_by r h = record { entry = record h.entry { removal = Some r }; content = None; settings = h.settings; tenures = h.tenures }

-- the same, where it has that id
abbrev pub removed_if : ℕ → Removal → History → History
removed_if id r h = if h.entry.id == id then removed_by r h else h

-- the bucket of that department, where it has that name
abbrev pub with_department : List ℕ → List ℕ → Bucket → Bucket
with_department name dept b = if bytes_eq b.name name then record b { config = record { dept = dept; default = b.config.default } } else b

-- the history with one tenure more
abbrev pub tenured_by : Tenure → History → History
tenured_by t h = record h { tenures = h.tenures ++ t ∷ [] }

-- the same, where it is a held version of that bucket
abbrev pub tenured_if : List ℕ → Tenure → History → History
tenured_if bucket t h = if is_held_version_in bucket h.entry then tenured_by t h else h

-- the tenure that the next move begins
abbrev pub next_tenure : Vault → ℕ → List ℕ → Tenure
next_tenure v t dept = record { dept = dept; from = t; number = v.moves + 1 }

-- the vault after a change at t: the last moment becomes t, and one thing happens; named records stay in the order of their names
abbrev pub changed : Vault → ℕ → Change → Vault
changed v t (AddDept name) = record v { last = t; departments = placed name_cmp name v.departments }
changed v t (AddCaller c) = record v { last = t; callers = placed caller_cmp c v.callers }
changed v t (CloseCaller name) = record v { last = t; callers = map (closed_if name) v.callers }
changed v t (AddBucket name dept) = record v { last = t; buckets = placed bucket_cmp (new_bucket name dept) v.buckets }
changed v t (MoveBucket name dept) =
    record v { last = t; moves = v.moves + 1; buckets = map (with_department name dept) v.buckets; histories = map (tenured_if name (next_tenure v t dept)) v.histories }
changed v t (SetDefault name default) = record v { last = t; buckets = map (with_default name default) v.buckets }
changed v t (SetRules name rules) = record v { last = t; buckets = map (with_rules name rules) v.buckets }
changed v t (Admit a) = record v { last = t; notes = placed_if_given note_cmp a.note v.notes; histories = v.histories ++ a.history ∷ [] }
changed v t (AddSetting id s) = record v { last = t; histories = map (with_setting id s) v.histories }
changed v t (Remove id r) = record v { last = t; histories = map (removed_if id r) v.histories }
