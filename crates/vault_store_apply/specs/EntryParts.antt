-- The edits of the tables that the parts make which change entries.
use Rattle.std.specs.Prelude.{ℕ, Bool, true, false, List, [], ◌∷◌, map, filter, not, Option, Some, None}
use Rattle.sqlite_value.specs.Order.{Row}
use Rattle.vault_base.specs.declared.refusal.Table.TheVariants as table
use Rattle.vault_tally.specs.declared.row.Row.{Row as Sums}
use Rattle.vault_core_model.specs.declared.records.Entry.{Entry}
use Rattle.vault_core_model.specs.declared.records.Head.{Head}
use Rattle.vault_core_model.specs.declared.records.History.{History}
use Rattle.vault_core_model.specs.declared.records.Note.{Note}
use Rattle.vault_core_model.specs.declared.records.Removal.{Removal}
use Rattle.vault_core_model.specs.declared.records.Setting.{Setting}
use Rattle.vault_core_model.specs.declared.records.Tenure.{Tenure}
use Rattle.vault_core_model.specs.declared.change.Admission.{Admission}
use Rattle.vault_audit_model.specs.Rows.{entry_row, content_row, external_row, setting_row, note_row, tenure_row}
use Rattle.vault_audit_model.specs.Spells.{contents_in, external_in}
use Rattle.vault_store_model.specs.Rows.{Rows}
use Rattle.vault_store_model.specs.Edits.{with_rows, with_row, changed_if, with_changed, without, made_if, and_then, with_each, at_moment}
use Rattle.vault_store_model.specs.Tests.{is_named, is_numbered, is_of_key, every, with_last_and_next, with_sums, removed_row, with_head_columns}
use Rattle.vault_store_model.specs.Changes.{with_row_if_given, with_head}

abbrev pub setting_added : ℕ → ℕ → Setting → ℕ → Rows → Rows
setting_added id place setting t = and_then (with_row table.Settings (setting_row (record { id = id; place = place; setting = setting }))) (at_moment t)

-- the row of the head of a key, which had one, becomes this one, or goes
abbrev pub left_rows : List ℕ → List ℕ → Option Head → List Row → List Row
left_rows bucket key None rows = filter (λ row. not (is_of_key bucket key row)) rows
left_rows bucket key (Some left) rows = map (changed_if (is_of_key bucket key) (with_head_columns left)) rows

abbrev pub with_left_head : List ℕ → List ℕ → Option Head → Rows → Rows
with_left_head bucket key left = with_rows table.Heads (left_rows bucket key left)

-- the first of these settings of an entry
abbrev pub first_put : ℕ → List Setting → List Row → List Row
first_put id [] rows = rows
first_put id (s ∷ ss) rows = setting_row (record { id = id; place = 1; setting = s }) ∷ rows

abbrev pub with_first_setting : ℕ → List Setting → Rows → Rows
with_first_setting id settings = with_rows table.Settings (first_put id settings)

-- the first of these tenures of an entry; a marker has none
abbrev pub first_tenure_put : ℕ → List Tenure → List Row → List Row
first_tenure_put id [] rows = rows
first_tenure_put id (t ∷ ts) rows = tenure_row (record { id = id; tenure = t }) ∷ rows

abbrev pub with_first_tenure : ℕ → List Tenure → Rows → Rows
with_first_tenure id tenures = with_rows table.Tenures (first_tenure_put id tenures)

-- these sums of a department, but for a marker, which counts in none
abbrev pub summed_as : Bool → List ℕ → Sums → List Row → List Row
summed_as true dept sums rows = rows
summed_as false dept sums rows = map (changed_if (is_named dept) (with_sums sums)) rows

abbrev pub with_sums_as : Bool → List ℕ → Sums → Rows → Rows
with_sums_as marker dept sums = with_rows table.Departments (summed_as marker dept sums)

-- an entry with its content, its first setting and its first tenure
abbrev pub history_put : History → Rows → Rows
history_put h =
    and_then (with_row table.Entries (entry_row h.entry))
    (and_then (with_each table.Contents (map content_row (contents_in h)))
    (and_then (with_each table.External (map external_row (external_in h)))
    (and_then (with_first_setting h.entry.id h.settings)
    (with_first_tenure h.entry.id h.tenures))))

abbrev pub noted_and_summed : Option Note → Bool → List ℕ → Sums → Rows → Rows
noted_and_summed note marker dept sums = and_then (with_row_if_given table.Intake note_row note) (with_sums_as marker dept sums)

abbrev pub entry_added : Admission → Option Head → Head → List ℕ → Sums → ℕ → ℕ → Rows → Rows
entry_added a old newest dept sums t next =
    and_then (history_put a.history)
    (and_then (with_head a.history.entry.bucket a.history.entry.key old (Some newest))
    (and_then (noted_and_summed a.note a.history.entry.marker dept sums)
    (with_changed table.Meta every (with_last_and_next t next))))

-- an entry removed with its content, from a vault that registers contents which are kept outside, or doesn't
abbrev pub content_dropped : Bool → ℕ → Removal → Rows → Rows
content_dropped external id r =
    and_then (with_changed table.Entries (is_numbered id) (removed_row r))
    (and_then (without table.Contents (is_numbered id))
    (made_if external (without table.External (is_numbered id))))

abbrev pub entry_removed : Bool → Entry → ℕ → Removal → Option Head → List ℕ → Sums → ℕ → Rows → Rows
entry_removed external e id r left dept sums t =
    and_then (content_dropped external id r)
    (and_then (with_sums_as e.marker dept sums)
    (and_then (with_left_head e.bucket e.key left)
    (at_moment t)))
