-- Which edits of the tables make a change of the vault.
use Rattle.std.specs.Prelude.{ℕ, ◌+◌, Bool, true, false, List, ◌∷◌, map, filter, not, ◌==◌, Option, Some, None}
use Rattle.sqlite_value.specs.Order.{Row}
use Rattle.vault_base.specs.declared.refusal.Table.{Table}
use Rattle.vault_base.specs.declared.refusal.Table.TheVariants as table
use Rattle.vault_core_model.specs.declared.records.BucketConfig.{BucketConfig}
use Rattle.vault_core_model.specs.declared.records.Entry.{Entry}
use Rattle.vault_core_model.specs.declared.records.Head.{Head}
use Rattle.vault_core_model.specs.declared.records.History.{History}
use Rattle.vault_core_model.specs.declared.records.Removal.{Removal}
use Rattle.vault_core_model.specs.declared.change.Change.{Change}
use Rattle.vault_core_model.specs.declared.change.Change.TheVariants.{AddDept, AddCaller, CloseCaller, AddBucket, MoveBucket, SetDefault, SetRules, Admit, AddSetting, Remove}
use Rattle.vault_core_model.specs.Change.{changed, new_bucket}
use Rattle.vault_core_model.specs.Reads.{entry_of, setting_of, count_of_settings, head_of, head_over}
use Rattle.vault_core_model.specs.Places.{held_at}
use Rattle.vault_core_model.specs.Vault.{Vault, config_of, next_id}
use Rattle.vault_audit_model.specs.Rows.{department_row, caller_row, bucket_row, rule_row, entry_row, content_row, setting_row, note_row, head_row, tenure_row, external_row}
use Rattle.vault_audit_model.specs.Spells.{bucket_of, rules_if_given, contents_in, external_in, settings_in, tenures_in, department_in}
use Rattle.vault_store_model.specs.Rows.{Rows}
use Rattle.vault_store_model.specs.Edits.{with_rows, with_row, changed_if, with_changed, without, made_if, and_then, with_each, at_moment}
use Rattle.vault_store_model.specs.Copies.{with_tenures}
use Rattle.vault_store_model.specs.Tests.{is_named, is_numbered, is_of_key, every, with_last_and_next, with_last_and_moves, with_sums, closed_row, with_default_columns, with_owner, removed_row, with_head_columns}

-- ---- parts of edits

-- a row more, where there is what it says
abbrev pub added_if_given : {A : Type 0} → (A → Row) → Option A → List Row → List Row
added_if_given row None rows = rows
added_if_given row (Some x) rows = row x ∷ rows

abbrev pub with_row_if_given : {A : Type 0} → Table → (A → Row) → Option A → Rows → Rows
with_row_if_given t row given = with_rows t (added_if_given row given)

-- the sums that this vault has, in the row of the department of an entry's bucket; a marker counts in none
abbrev pub summed : Vault → Bool → Option BucketConfig → List Row → List Row
summed v true config rows = rows
summed v false None rows = rows
summed v false (Some config) rows = map (changed_if (is_named config.dept) (with_sums (department_in v config.dept).sums)) rows

abbrev pub with_sums_of : Vault → Bool → Option BucketConfig → Rows → Rows
with_sums_of v marker config = with_rows table.Departments (summed v marker config)

-- the row of a key's head, which was the first and becomes the second
abbrev pub headed : List ℕ → List ℕ → Option Head → Option Head → List Row → List Row
headed bucket key None None rows = rows
headed bucket key None (Some new) rows = head_row (record { bucket = bucket; key = key; head = new }) ∷ rows
headed bucket key (Some old) None rows = filter (λ row. not (is_of_key bucket key row)) rows
headed bucket key (Some old) (Some new) rows = map (changed_if (is_of_key bucket key) (with_head_columns new)) rows

abbrev pub with_head : List ℕ → List ℕ → Option Head → Option Head → Rows → Rows
with_head bucket key old new = with_rows table.Heads (headed bucket key old new)

-- ---- heads after a change

-- the head of a key, with one entry more
abbrev pub head_with : ℕ → Option Head → Head
head_with id None = record { newest = id; count = 1 }
head_with id (Some old) = record { newest = id; count = old.count + 1 }

-- the held entries of a key beside this one, oldest first
abbrev pub others_at : Vault → ℕ → List ℕ → List ℕ → List History
others_at v id bucket key = filter (λ h. not (h.entry.id == id)) (held_at v bucket key)

-- ---- changes

-- an entry, what it brings with it, and the head of its key
abbrev pub with_history : Vault → History → Rows → Rows
with_history v h =
    and_then (with_row table.Entries (entry_row h.entry))
    (and_then (with_each table.Contents (map content_row (contents_in h)))
    (and_then (made_if v.external (with_each table.External (map external_row (external_in h))))
    (and_then (with_each table.Settings (map setting_row (settings_in h)))
    (and_then (with_each table.Tenures (map tenure_row (tenures_in h)))
    (with_head h.entry.bucket h.entry.key (head_of v h.entry.bucket h.entry.key) (Some (head_with h.entry.id (head_of v h.entry.bucket h.entry.key))))))))

-- an entry removed, its content, the sums and the head of its key; w is the vault after that
abbrev pub without_entry : Vault → Vault → ℕ → Removal → Option Entry → Rows → Rows
without_entry v w id r None xs = xs
without_entry v w id r (Some e) xs =
    and_then (with_changed table.Entries (is_numbered id) (removed_row r))
    (and_then (without table.Contents (is_numbered id))
    (and_then (made_if v.external (without table.External (is_numbered id)))
    (and_then (with_sums_of w e.marker (config_of v e.bucket))
    (with_head e.bucket e.key (head_of v e.bucket e.key) (head_over (others_at v id e.bucket e.key)))))) xs

-- the sums that this vault has, in the row of a department
abbrev pub with_department_sums : Vault → List ℕ → Rows → Rows
with_department_sums v dept = with_changed table.Departments (is_named dept) (with_sums (department_in v dept).sums)

-- a bucket becomes that department's: its held versions get a tenure, and both departments their sums; w is the vault after that
abbrev pub with_move : Vault → Vault → ℕ → List ℕ → List ℕ → Option BucketConfig → Rows → Rows
with_move v w t name dept None xs = xs
with_move v w t name dept (Some owner) xs =
    and_then (with_tenures name (v.moves + 1) dept t)
    (and_then (with_changed table.Buckets (is_named name) (with_owner dept))
    (and_then (with_department_sums w owner.dept)
    (and_then (with_department_sums w dept)
    (with_changed table.Meta every (with_last_and_moves t (v.moves + 1)))))) xs

-- the edits that a change at t is
abbrev pub edit_of : Vault → ℕ → Change → Rows → Rows
edit_of v t (AddDept name) =
    and_then (with_row table.Departments (department_row (record { name = name; sums = record { admitted = 0; received = 0; held = 0; removed = 0; handed = 0; weighted = 0; closed = 0 } })))
    (at_moment t)
edit_of v t (AddCaller c) = and_then (with_row table.Callers (caller_row c)) (at_moment t)
edit_of v t (CloseCaller name) = and_then (with_changed table.Callers (is_named name) closed_row) (at_moment t)
edit_of v t (AddBucket name dept) = and_then (with_row table.Buckets (bucket_row (bucket_of (new_bucket name dept)))) (at_moment t)
edit_of v t (MoveBucket name dept) = with_move v (changed v t (MoveBucket name dept)) t name dept (config_of v name)
edit_of v t (SetDefault name default) = and_then (with_changed table.Buckets (is_named name) (with_default_columns default)) (at_moment t)
edit_of v t (SetRules name rules) =
    and_then (without table.Rules (is_named name)) (and_then (with_each table.Rules (map rule_row (rules_if_given name rules))) (at_moment t))
edit_of v t (Admit a) =
    and_then (with_history v a.history)
    (and_then (with_row_if_given table.Intake note_row a.note)
    (and_then (with_sums_of (changed v t (Admit a)) a.history.entry.marker (config_of v a.history.entry.bucket))
    (with_changed table.Meta every (with_last_and_next t (next_id v + 1)))))
edit_of v t (AddSetting id s) =
    and_then (with_row table.Settings (setting_row (record { id = id; place = count_of_settings (setting_of v id) + 1; setting = s }))) (at_moment t)
edit_of v t (Remove id r) = and_then (without_entry v (changed v t (Remove id r)) id r (entry_of v id)) (at_moment t)
