-- The rows that state a record of their table are put in as they are.
use Rattle.std.proofs.Common.{◌≡◌, ℕ, length, map, ◌+◌, Bool, true, false, IsTrue, Option, Some, None, Ok, refl, sym, subst, ◌∙◌, true≢false}
use Rattle.sqlite_value.specs.Order.{Row}
use Rattle.sqlite_tied.specs.Compute.{everything}
use Rattle.sqlite.specs.Values.{bound_value}
use Rattle.sqlite.specs.State.{State, Executes}
use Rattle.vault_base.specs.declared.refusal.Table.{Table}
use Rattle.vault_base.specs.declared.refusal.Table.TheVariants as table
use Rattle.vault_core_model.specs.declared.records.Author.{Author}
use Rattle.vault_core_model.specs.declared.records.Author.TheVariants as author
use Rattle.vault_core_model.specs.declared.records.Caller.{Caller}
use Rattle.vault_core_model.specs.declared.records.Entry.{Entry}
use Rattle.vault_core_model.specs.declared.records.Note.{Note}
use Rattle.vault_audit_model.specs.declared.rows.MetaRow.{MetaRow}
use Rattle.vault_audit_model.specs.declared.rows.BucketRow.{BucketRow}
use Rattle.vault_audit_model.specs.declared.rows.RuleRow.{RuleRow}
use Rattle.vault_audit_model.specs.declared.rows.SettingRow.{SettingRow}
use Rattle.vault_audit_model.specs.Rows.{meta_row, department_row, caller_row, bucket_row, rule_row, entry_row, content_row, setting_row, note_row, head_row, tenure_row, external_row, default_days, default_years, noncurrent_days, noncurrent_newer, author_kind, author_name, removal_at, removal_cause, removal_by, retention_until}
use Rattle.vault_audit_model.specs.Tables.{vault_schema, departments, callers, buckets, rules, entries, contents, settings, intake, heads, tenures}
use Rattle.vault_audit_model.specs.Values.{number_or_null, flag, flag_or_null}
use Rattle.vault_store_model.specs.Edits.{with_row}
use Rattle.vault_store_edits.proofs.BoundLemmas.{bound_bytes}
use Rattle.vault_store_edits.proofs.CastLemmas.{cast_number, bound_text}
use Rattle.vault_store_edits.specs.DepartmentLaws.{department_inserts}
use Rattle.vault_store_edits.specs.CallerLaws.{caller_inserts}
use Rattle.vault_store_edits.specs.BucketLaws.{bucket_inserts}
use Rattle.vault_store_edits.specs.RuleLaws.{rule_inserts}
use Rattle.vault_store_edits.specs.EntryLaws.{entry_inserts}
use Rattle.vault_store_edits.specs.ContentLaws.{content_inserts}
use Rattle.vault_store_edits.specs.SettingLaws.{setting_inserts}
use Rattle.vault_store_edits.specs.NoteLaws.{note_inserts}
use Rattle.vault_store_edits.specs.HeadLaws.{head_inserts}
use Rattle.vault_store_edits.specs.TenureLaws.{tenure_inserts}
use Rattle.vault_store_edits.specs.Insertions.{insertion}
use Rattle.vault_store_edits.specs.Inserts.{terms_by, source_by}
use Rattle.vault_store_edits.specs.Trees.{has_table, made_as}
use Rattle.vault_store_edits.proofs.PutLemmas.{leaves}
use Rattle.vault_store_edits.proofs.StatementLemmas.{Leaves, inserts}
use Rattle.vault_store_create.specs.Copied.{PutsRow}
use Rattle.vault_store_create.specs.Listings.{putting_of}
use Rattle.vault_store_create.specs.RowsOf.{IsOf, IsRowOf, put_of}

-- ---- parameters: the values of records aren't NaN, so they are bound as they are

bound_number : (o : Option ℕ) → bound_value (number_or_null o) ≡ number_or_null o
bound_number None = refl
bound_number (Some n) = refl

bound_flag : (b : Bool) → bound_value (flag b) ≡ flag b
bound_flag false = refl
bound_flag true = refl

bound_hold : (o : Option Bool) → bound_value (flag_or_null o) ≡ flag_or_null o
bound_hold None = refl
bound_hold (Some b) = bound_flag b

bound_kind : (by : Author) → bound_value (author_kind by) ≡ author_kind by
bound_kind (author.Caller name) = refl
bound_kind (author.Rule id) = refl

bound_name : (by : Author) → bound_value (author_name by) ≡ author_name by
bound_name (author.Caller name) = refl
bound_name (author.Rule id) = refl

abbrev IsBound : Row → Type 0
IsBound row = map bound_value row ≡ row

caller_bound : (c : Caller) → IsBound (caller_row c)
caller_bound c = rw (bound_text c.dept, bound_flag c.closed) refl

bucket_bound : (b : BucketRow) → IsBound (bucket_row b)
bucket_bound b =
    let days : bound_value (default_days b.config.default) ≡ default_days b.config.default = bound_number _ in
    let years : bound_value (default_years b.config.default) ≡ default_years b.config.default = bound_number _ in
    rw (days, years) refl

rule_bound : (r : RuleRow) → IsBound (rule_row r)
rule_bound r =
    let old : bound_value (noncurrent_days r.rule.noncurrent) ≡ noncurrent_days r.rule.noncurrent = bound_number _ in
    let newer : bound_value (noncurrent_newer r.rule.noncurrent) ≡ noncurrent_newer r.rule.noncurrent = bound_number _ in
    rw (bound_flag r.rule.enabled, bound_number r.rule.days, bound_flag r.rule.lone_markers, old, newer, bound_number r.rule.larger, bound_number r.rule.smaller) refl

entry_bound : (e : Entry) → IsBound (entry_row e)
entry_bound e =
    let at : bound_value (removal_at e.removal) ≡ removal_at e.removal = bound_number _ in
    let cause : bound_value (removal_cause e.removal) ≡ removal_cause e.removal = bound_number _ in
    let by : bound_value (removal_by e.removal) ≡ removal_by e.removal = bound_text _ in
    rw (bound_flag e.marker, bound_bytes e.digest, bound_kind e.by, bound_name e.by, at, cause, by) refl

setting_bound : (s : SettingRow) → IsBound (setting_row s)
setting_bound s =
    let until : bound_value (retention_until s.setting.lock.retention) ≡ retention_until s.setting.lock.retention = bound_number _ in
    rw (until, bound_flag s.setting.lock.hold, bound_flag s.setting.bypass) refl

note_bound : (n : Note) → IsBound (note_row n)
note_bound n =
    let until : bound_value (retention_until n.retention) ≡ retention_until n.retention = bound_number _ in
    rw (until, bound_hold n.hold) refl

bound_row : {X : Type 0} (row_of : X → Row) → ((x : X) → IsBound (row_of x)) → (row : Row) → IsOf row_of row → IsBound row
bound_row row_of bounds row stated = subst IsBound (sym stated.1) (bounds stated.0)

bound_meta : (external : Bool) (m : MetaRow) → IsBound (put_of table.Meta external (meta_row m))
bound_meta false m = refl
bound_meta true m = refl

-- as parameters of a statement the row is what it was
pub bound_as_stated : (external : Bool) (t : Table) (row : Row) → IsRowOf t row → IsBound (put_of t external row)
bound_as_stated external table.Meta row stated = subst (λ r. IsBound (put_of table.Meta external r)) (sym stated.1) (bound_meta external stated.0)
bound_as_stated external table.Departments row stated = bound_row department_row (λ d. refl) row stated
bound_as_stated external table.Callers row stated = bound_row caller_row caller_bound row stated
bound_as_stated external table.Buckets row stated = bound_row bucket_row bucket_bound row stated
bound_as_stated external table.Rules row stated = bound_row rule_row rule_bound row stated
bound_as_stated external table.Entries row stated = bound_row entry_row entry_bound row stated
bound_as_stated external table.Contents row stated = bound_row content_row (λ c. refl) row stated
bound_as_stated external table.Settings row stated = bound_row setting_row setting_bound row stated
bound_as_stated external table.Intake row stated = bound_row note_row note_bound row stated
bound_as_stated external table.Heads row stated = bound_row head_row (λ h. refl) row stated
bound_as_stated external table.Tenures row stated = bound_row tenure_row (λ t. refl) row stated
bound_as_stated external table.External row stated = bound_row external_row (λ id. refl) row stated

-- ---- columns: each takes the values of records as they are

-- the statement that puts this row into the table does so
abbrev PutsIn : Bool → Table → State → State → Row → Type 0
PutsIn external t old new row =
    (count : ℕ) → old.now.schema ≡ vault_schema external → Executes (putting_of external t) (put_of t external row) old new (Ok count) → Leaves external old new (with_row t row)

meta_puts : (external : Bool) (old new : State) (m : MetaRow) → PutsIn external table.Meta old new (meta_row m)
unfolding everything
meta_puts false old new m =
    let made = made_as false table.Meta in
    let row = put_of table.Meta false (meta_row m) in
    let it = insertion false table.Meta refl in
    inserts false table.Meta refl 0 made (putting_of false table.Meta) row (terms_by made.key made.columns) (length made.columns + 1) (source_by made.key row) (meta_row m) it.command it.plain
    (λ limit mode text db out h. it.places limit mode row text db out h) refl refl (λ rows. rw (cast_number 1, cast_number m.schema, cast_number m.last, cast_number m.next, cast_number m.moves) refl) old new
meta_puts true old new m =
    leaves true table.Meta (made_as true table.Meta) (meta_row m)
    (record { text = insertion true table.Meta refl; one = refl; here = refl; reads_so = λ rows. rw (cast_number 0, cast_number 1, cast_number m.schema, cast_number m.last, cast_number m.next, cast_number m.moves) refl }) old new

module _ (external : Bool) (old new : State) where
  by_record : {X : Type 0} (row_of : X → Row) (t : Table) → ((x : X) → PutsIn external t old new (row_of x)) → (row : Row) → IsOf row_of row → PutsIn external t old new row
  by_record row_of t puts row stated = subst (PutsIn external t old new) (sym stated.1) (puts stated.0)

  put_as_stated : (t : Table) → IsTrue (has_table false t) → (row : Row) → IsRowOf t row → PutsIn external t old new row
  put_as_stated table.Meta there = by_record meta_row table.Meta (meta_puts external old new)
  put_as_stated table.Departments there = by_record department_row table.Departments (λ x. leaves external table.Departments departments (department_row x) (department_inserts external x) old new)
  put_as_stated table.Callers there = by_record caller_row table.Callers (λ x. leaves external table.Callers callers (caller_row x) (caller_inserts external x) old new)
  put_as_stated table.Buckets there = by_record bucket_row table.Buckets (λ x. leaves external table.Buckets buckets (bucket_row x) (bucket_inserts external x) old new)
  put_as_stated table.Rules there = by_record rule_row table.Rules (λ x. leaves external table.Rules rules (rule_row x) (rule_inserts external x) old new)
  put_as_stated table.Entries there = by_record entry_row table.Entries (λ x. leaves external table.Entries entries (entry_row x) (entry_inserts external x) old new)
  put_as_stated table.Contents there = by_record content_row table.Contents (λ x. leaves external table.Contents contents (content_row x) (content_inserts external x) old new)
  put_as_stated table.Settings there = by_record setting_row table.Settings (λ x. leaves external table.Settings settings (setting_row x) (setting_inserts external x) old new)
  put_as_stated table.Intake there = by_record note_row table.Intake (λ x. leaves external table.Intake intake (note_row x) (note_inserts external x) old new)
  put_as_stated table.Heads there = by_record head_row table.Heads (λ x. leaves external table.Heads heads (head_row x) (head_inserts external x) old new)
  put_as_stated table.Tenures there = by_record tenure_row table.Tenures (λ x. leaves external table.Tenures tenures (tenure_row x) (tenure_inserts external x) old new)
  put_as_stated table.External there = absurd (true≢false (sym there))

  -- the statement, with the values of the row as its parameters
  pub puts_row : (t : Table) → IsTrue (has_table false t) → (row params : Row) → params ≡ map bound_value (put_of t external row) → (count : ℕ) → Executes (putting_of external t) params old new (Ok count)
      → PutsRow external t row old.now new.now
  puts_row t there row params given count h has stated =
      let it = put_as_stated t there row stated count has (subst (λ p. Executes (putting_of external t) p old new (Ok count)) (given ∙ bound_as_stated external t row stated) h) in
      record { schema = it.schema; rows = it.rows; listed = it.sound }
