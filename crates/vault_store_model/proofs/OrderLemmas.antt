-- Edits that ignore the order in which rows stand.
use Rattle.std.proofs.Common.{ℕ, ◌+◌, List, [], ◌∷◌, map, not, Bool, true, false, Option, Some, None, IsPermutation}
use Rattle.std.proofs.lemmas.List.Sorted.{IsPermutation-cons, IsPermutation-map}
use Rattle.sqlite_trees.proofs.ListLemmas.{IsPermutation-filter}
use Rattle.sqlite_value.specs.Order.{Row}
use Rattle.vault_base.specs.declared.refusal.Table.{Table}
use Rattle.vault_base.specs.declared.refusal.Table.TheVariants as table
use Rattle.vault_core_model.specs.declared.records.BucketConfig.{BucketConfig}
use Rattle.vault_core_model.specs.declared.records.Entry.{Entry}
use Rattle.vault_core_model.specs.declared.records.Head.{Head}
use Rattle.vault_core_model.specs.declared.records.History.{History}
use Rattle.vault_core_model.specs.declared.records.Removal.{Removal}
use Rattle.vault_core_model.specs.declared.change.Change.{Change}
use Rattle.vault_core_model.specs.declared.change.Change.TheVariants.{AddDept, AddCaller, CloseCaller, AddBucket, MoveBucket, SetDefault, SetRules, Admit, AddSetting, Remove}
use Rattle.vault_core_model.specs.Change.{changed, new_bucket}
use Rattle.vault_core_model.specs.Reads.{entry_of, head_of, head_over}
use Rattle.vault_core_model.specs.Vault.{Vault, config_of, next_id}
use Rattle.vault_audit_model.specs.Rows.{caller_row, bucket_row, rule_row, entry_row, content_row, setting_row, note_row, tenure_row, external_row}
use Rattle.vault_audit_model.specs.Spells.{bucket_of, rules_if_given, contents_in, external_in, settings_in, tenures_in, department_in}
use Rattle.vault_store_model.specs.Edits.{changed_if, IgnoresOrder, pushed, with_each, at_moment}
use Rattle.vault_store_model.specs.Copies.{is_held_version, moved_row}
use Rattle.vault_store_model.specs.Tests.{is_named, is_numbered, is_of_key, every, with_last, with_last_and_next, with_last_and_moves, with_sums, closed_row, with_default_columns, with_owner, removed_row, with_head_columns}
use Rattle.vault_store_model.proofs.EditLemmas.{with_row_ignores, with_changed_ignores, without_ignores, with_copies_ignores, made_if_ignores, and_then_ignores, with_rows_ignores}
use Rattle.vault_store_model.specs.Changes.{added_if_given, with_row_if_given, summed, with_sums_of, headed, with_head, head_with, others_at, with_history, without_entry, with_department_sums, with_move, edit_of}

-- ---- lists of rows

pushed_same : (more xs ys : List Row) → IsPermutation xs ys → IsPermutation (pushed more xs) (pushed more ys)
pushed_same [] xs ys same = same
pushed_same (row ∷ more) xs ys same = pushed_same more (row ∷ xs) (row ∷ ys) (IsPermutation-cons row xs ys same)

added_same : {A : Type 0} (row : A → Row) (given : Option A) (xs ys : List Row) → IsPermutation xs ys → IsPermutation (added_if_given row given xs) (added_if_given row given ys)
added_same row None xs ys same = same
added_same row (Some x) xs ys same = IsPermutation-cons (row x) xs ys same

summed_same : (v : Vault) (marker : Bool) (config : Option BucketConfig) (xs ys : List Row) → IsPermutation xs ys → IsPermutation (summed v marker config xs) (summed v marker config ys)
summed_same v true config xs ys same = same
summed_same v false None xs ys same = same
summed_same v false (Some config) xs ys same = IsPermutation-map (changed_if (is_named config.dept) (with_sums (department_in v config.dept).sums)) xs ys same

pub headed_same : (bucket key : List ℕ) (old new : Option Head) (xs ys : List Row) → IsPermutation xs ys → IsPermutation (headed bucket key old new xs) (headed bucket key old new ys)
headed_same bucket key None None xs ys same = same
headed_same bucket key None (Some new) xs ys same = IsPermutation-cons _ xs ys same
headed_same bucket key (Some old) None xs ys same = IsPermutation-filter (λ row. not (is_of_key bucket key row)) xs ys same
headed_same bucket key (Some old) (Some new) xs ys same = IsPermutation-map (changed_if (is_of_key bucket key) (with_head_columns new)) xs ys same

-- ---- edits

pub each_ignores : (t : Table) (more : List Row) → IgnoresOrder (with_each t more)
each_ignores t more = with_rows_ignores t (pushed more) (pushed_same more)

pub if_given_ignores : {A : Type 0} (t : Table) (row : A → Row) (given : Option A) → IgnoresOrder (with_row_if_given t row given)
if_given_ignores t row given = with_rows_ignores t (added_if_given row given) (added_same row given)

pub moment_ignores : (t : ℕ) → IgnoresOrder (at_moment t)
moment_ignores t = with_changed_ignores table.Meta every (with_last t)

pub sums_ignore : (v : Vault) (marker : Bool) (config : Option BucketConfig) → IgnoresOrder (with_sums_of v marker config)
sums_ignore v marker config = with_rows_ignores table.Departments (summed v marker config) (summed_same v marker config)

pub head_ignores : (bucket key : List ℕ) (old new : Option Head) → IgnoresOrder (with_head bucket key old new)
head_ignores bucket key old new = with_rows_ignores table.Heads (headed bucket key old new) (headed_same bucket key old new)

department_ignores : (v : Vault) (dept : List ℕ) → IgnoresOrder (with_department_sums v dept)
department_ignores v dept = with_changed_ignores table.Departments (is_named dept) (with_sums (department_in v dept).sums)

history_ignores : (v : Vault) (h : History) → IgnoresOrder (with_history v h)
history_ignores v h =
    and_then_ignores _ _ (with_row_ignores table.Entries (entry_row h.entry))
    (and_then_ignores _ _ (each_ignores table.Contents (map content_row (contents_in h)))
    (and_then_ignores _ _ (made_if_ignores v.external _ (each_ignores table.External (map external_row (external_in h))))
    (and_then_ignores _ _ (each_ignores table.Settings (map setting_row (settings_in h)))
    (and_then_ignores _ _ (each_ignores table.Tenures (map tenure_row (tenures_in h)))
    (head_ignores h.entry.bucket h.entry.key (head_of v h.entry.bucket h.entry.key) (Some (head_with h.entry.id (head_of v h.entry.bucket h.entry.key))))))))

removal_ignores : (v w : Vault) (id : ℕ) (r : Removal) (e : Option Entry) → IgnoresOrder (without_entry v w id r e)
removal_ignores v w id r None xs ys are = are
removal_ignores v w id r (Some e) xs ys are =
    and_then_ignores _ _ (with_changed_ignores table.Entries (is_numbered id) (removed_row r))
    (and_then_ignores _ _ (without_ignores table.Contents (is_numbered id))
    (and_then_ignores _ _ (made_if_ignores v.external _ (without_ignores table.External (is_numbered id)))
    (and_then_ignores _ _ (sums_ignore w e.marker (config_of v e.bucket))
    (head_ignores e.bucket e.key (head_of v e.bucket e.key) (head_over (others_at v id e.bucket e.key)))))) xs ys are

move_ignores : (v w : Vault) (t : ℕ) (name dept : List ℕ) (owner : Option BucketConfig) → IgnoresOrder (with_move v w t name dept owner)
move_ignores v w t name dept None xs ys are = are
move_ignores v w t name dept (Some owner) xs ys are =
    and_then_ignores _ _ (with_copies_ignores table.Tenures table.Entries (is_held_version name) (moved_row (v.moves + 1) dept t))
    (and_then_ignores _ _ (with_changed_ignores table.Buckets (is_named name) (with_owner dept))
    (and_then_ignores _ _ (department_ignores w owner.dept)
    (and_then_ignores _ _ (department_ignores w dept) (with_changed_ignores table.Meta every (with_last_and_moves t (v.moves + 1)))))) xs ys are

-- ---- the edits of a change

pub edit_ignores : (v : Vault) (t : ℕ) (c : Change) → IgnoresOrder (edit_of v t c)
edit_ignores v t (AddDept name) = and_then_ignores _ _ (with_row_ignores table.Departments _) (moment_ignores t)
edit_ignores v t (AddCaller c) = and_then_ignores _ _ (with_row_ignores table.Callers (caller_row c)) (moment_ignores t)
edit_ignores v t (CloseCaller name) = and_then_ignores _ _ (with_changed_ignores table.Callers (is_named name) closed_row) (moment_ignores t)
edit_ignores v t (AddBucket name dept) = and_then_ignores _ _ (with_row_ignores table.Buckets (bucket_row (bucket_of (new_bucket name dept)))) (moment_ignores t)
edit_ignores v t (MoveBucket name dept) = move_ignores v (changed v t (MoveBucket name dept)) t name dept (config_of v name)
edit_ignores v t (SetDefault name default) = and_then_ignores _ _ (with_changed_ignores table.Buckets (is_named name) (with_default_columns default)) (moment_ignores t)
edit_ignores v t (SetRules name rules) =
    and_then_ignores _ _ (without_ignores table.Rules (is_named name))
    (and_then_ignores _ _ (each_ignores table.Rules (map rule_row (rules_if_given name rules))) (moment_ignores t))
edit_ignores v t (Admit a) =
    and_then_ignores _ _ (history_ignores v a.history)
    (and_then_ignores _ _ (if_given_ignores table.Intake note_row a.note)
    (and_then_ignores _ _ (sums_ignore (changed v t (Admit a)) a.history.entry.marker (config_of v a.history.entry.bucket))
    (with_changed_ignores table.Meta every (with_last_and_next t (next_id v + 1)))))
edit_ignores v t (AddSetting id s) = and_then_ignores _ _ (with_row_ignores table.Settings _) (moment_ignores t)
edit_ignores v t (Remove id r) = and_then_ignores _ _ (removal_ignores v (changed v t (Remove id r)) id r (entry_of v id)) (moment_ignores t)
