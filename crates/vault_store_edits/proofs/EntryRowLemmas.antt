-- What each statement on entries, contents, external, settings, tenures, intake and heads does.
use Rattle.std.proofs.Common.{◌≡◌, ℕ, ℤ, Bool, true, false, List, [], ◌∷◌, drop, ◌&&◌, Some, Ok, refl, sym, ap₂, subst, ◌∙◌}
use Rattle.sqlite_value.specs.declared.value.Value.{Value}
use Rattle.sqlite_value.specs.declared.value.Value.TheVariants.{Null, Int, Text}
use Rattle.sqlite_value.specs.Order.{Row, column}
use Rattle.sqlite_trees.specs.Tree.{rowid}
use Rattle.sqlite_schema.specs.declared.schema.Kind.TheVariants as kind
use Rattle.sqlite_rules.specs.declared.error.Rowids.TheVariants.{Chosen}
use Rattle.sqlite_rules.specs.Cast.{cast, cast_all}
use Rattle.sqlite_rules.specs.Edit.{with_rowid}
use Rattle.sqlite.specs.Effect.{IsDatabase}
use Rattle.sqlite.specs.State.{State, Executes}
use Rattle.vault_base.specs.declared.refusal.Table.TheVariants as table
use Rattle.vault_core_model.specs.declared.records.Removal.{Removal}
use Rattle.vault_audit_model.specs.declared.rows.HeadRow.{HeadRow}
use Rattle.vault_audit_model.specs.Rows.{head_row, removal_at, removal_cause, removal_by}
use Rattle.vault_audit_model.specs.Tables.{vault_schema, entries, contents, heads, tenures, external as kept_outside, entries_tree, contents_tree, external_tree, heads_tree}
use Rattle.vault_audit_model.specs.Values.{number}
use Rattle.vault_store_model.specs.Copies.{with_tenures, is_held_version, moved_row}
use Rattle.vault_store_model.specs.Edits.{with_changed, without}
use Rattle.vault_store_edits.specs.UniqueRowids.{HaveUniqueRowids}
use Rattle.vault_store_edits.specs.Trees.{columns_of}
use Rattle.vault_store_model.specs.Scans.{passes}
use Rattle.vault_store_model.specs.Tests.{is_text, is_number, is_numbered, is_of_key, removed_row, with_head_columns}
use Rattle.vault_audit_model.proofs.ValueLemmas.{cast_int}
use Rattle.vault_store_edits.proofs.CastLemmas.{cast_number}
use Rattle.vault_store_edits.proofs.CopyLemmas.{copies}
use Rattle.vault_store_edits.proofs.StatementLemmas.{Leaves, updates, deletes}
use Rattle.vault_store_edits.proofs.TestLemmas.{text_test, number_test}
use Rattle.vault_store_edits.proofs.TypeLemmas.{column_taken}
use Rattle.vault_store_edits.proofs.UnknownLemmas.{never_executed}
use Rattle.sqlite_tied.proofs.RuleLemmas.{and_true}
use Rattle.vault_store_edits.proofs.EntryTextLemmas.{by_id, removed_text, removed_project, removed_is, no_content_text, no_content_is, no_external_text, no_external_is, no_external_unknown, moved_text, moved_tests, moved_project, moved_collations, moved_is, by_key, newer_text, newer_project, newer_is, no_head_text, no_head_is}

-- the id in the first column is the first parameter
identified : (id : ℕ) (rest r : Row) → (passes by_id (number id ∷ rest) r ≡ true → (n : ℤ) × (rowid r ≡ Int n)) → passes by_id (number id ∷ rest) r ≡ is_number id (column r 0)
identified id rest r whole = and_true _ ∙ number_test id (column r 0) (λ yes. whole (and_true _ ∙ yes))

-- the bucket and the key in the first two columns are the first two parameters
keyed : (bucket key : List ℕ) (rest r : Row) → passes by_key (Text bucket ∷ Text key ∷ rest) r ≡ (is_text bucket (column r 1) && is_text key (column r 2))
keyed bucket key rest r = ap₂ ◌&&◌ (text_test bucket (column r 1)) (and_true _ ∙ text_test key (column r 2))

-- ---- entries

abbrev pub removal_params : ℕ → Removal → Row
removal_params id r = number id ∷ removal_at (Some r) ∷ removal_cause (Some r) ∷ removal_by (Some r) ∷ []

pub removes_entry : (external : Bool) (id : ℕ) (r : Removal) (old new : State) (count : ℕ) → HaveUniqueRowids (passes by_id (removal_params id r)) (old.now.trees entries_tree) → IsDatabase old.now → old.now.schema ≡ vault_schema external
    → Executes removed_text (removal_params id r) old new (Ok count) → Leaves external old new (with_changed table.Entries (is_numbered id) (removed_row r))
removes_entry external id r =
    updates external table.Entries refl 5 entries removed_text (removal_params id r) by_id (is_numbered id) refl (λ row whole. identified id (removal_at (Some r) ∷ removal_cause (Some r) ∷ removal_by (Some r) ∷ []) row whole)
    removed_project (removed_row r) (removed_is external) (λ limit mode text db out h. h) (λ db k. k.1.1.1.1.1.0)
    (λ row typed n is.
    let own : cast kind.Integer (column row 0) ≡ column row 0 = subst (λ v. cast kind.Integer v ≡ v) (sym is) (cast_int n) in
    let bucket : cast kind.Text (column row 2) ≡ column row 2 = column_taken entries row refl typed 1 _ refl in
    let key : cast kind.Text (column row 3) ≡ column row 3 = column_taken entries row refl typed 2 _ refl in
    let marker : cast kind.Integer (column row 4) ≡ column row 4 = column_taken entries row refl typed 3 _ refl in
    let size : cast kind.Integer (column row 5) ≡ column row 5 = column_taken entries row refl typed 4 _ refl in
    let admitted : cast kind.Integer (column row 7) ≡ column row 7 = column_taken entries row refl typed 6 _ refl in
    let rule : cast kind.Integer (column row 8) ≡ column row 8 = column_taken entries row refl typed 7 _ refl in
    let name : cast kind.Text (column row 9) ≡ column row 9 = column_taken entries row refl typed 8 _ refl in
    let at : cast kind.Integer (removal_at (Some r)) ≡ removal_at (Some r) = cast_number _ in
    let cause : cast kind.Integer (removal_cause (Some r)) ≡ removal_cause (Some r) = cast_number _ in
    rw (own, bucket, key, marker, size, admitted, rule, name, at, cause) refl)

-- ---- contents

pub drops_content : (external : Bool) (id : ℕ) (old new : State) (count : ℕ) → HaveUniqueRowids (passes by_id (number id ∷ [])) (old.now.trees contents_tree) → old.now.schema ≡ vault_schema external → Executes no_content_text (number id ∷ []) old new (Ok count)
    → Leaves external old new (without table.Contents (is_numbered id))
drops_content external id = deletes external table.Contents refl 6 contents no_content_text (number id ∷ []) by_id (is_numbered id) refl (λ row whole. identified id [] row whole) (no_content_is external) (λ limit mode text db out h. h)

-- ---- external

pub drops_external : (external : Bool) (id : ℕ) (old new : State) (count : ℕ) → HaveUniqueRowids (passes by_id (number id ∷ [])) (old.now.trees external_tree) → old.now.schema ≡ vault_schema external → Executes no_external_text (number id ∷ []) old new (Ok count)
    → Leaves external old new (without table.External (is_numbered id))
drops_external false id = λ old new count unique has h. absurd (never_executed (vault_schema false) no_external_text no_external_unknown (number id ∷ []) old new has count h)
drops_external true id =
    deletes true table.External refl 11 kept_outside no_external_text (number id ∷ []) by_id (is_numbered id) refl (λ row whole. identified id [] row whole) no_external_is (λ limit mode text db out h. h)

-- ---- settings, tenures and intake

-- a rowid that is chosen stands in no column
spared : (external : Bool) (v : Value) (vs : Row) (rows : List Row) → columns_of external table.Tenures (with_rowid Chosen rows (v ∷ vs)) ≡ columns_of external table.Tenures (v ∷ vs)
spared external Null vs rows = refl
spared external v vs rows = refl

abbrev pub moved_params : List ℕ → ℕ → List ℕ → ℕ → Row
moved_params bucket n dept at = Text bucket ∷ number n ∷ Text dept ∷ number at ∷ []

pub puts_tenures : (external : Bool) (bucket : List ℕ) (n : ℕ) (dept : List ℕ) (moment : ℕ) (old new : State) (count : ℕ) → old.now.schema ≡ vault_schema external → Executes moved_text (moved_params bucket n dept moment) old new (Ok count)
    → Leaves external old new (with_tenures bucket n dept moment)
puts_tenures false bucket n dept moment =
    copies false table.Tenures table.Entries refl refl 10 tenures moved_text (moved_params bucket n dept moment) moved_tests moved_project moved_collations (is_held_version bucket) (moved_row n dept moment) (moved_is false)
    (λ limit mode text db out h. h) refl refl (λ r. refl) (λ rows s. spared false (cast kind.Integer (column s 0)) (cast_all tenures.columns (drop 1 s)) rows)
    (λ r. rw (cast_number n, cast_number moment) refl)
puts_tenures true bucket n dept moment =
    copies true table.Tenures table.Entries refl refl 10 tenures moved_text (moved_params bucket n dept moment) moved_tests moved_project moved_collations (is_held_version bucket) (moved_row n dept moment) (moved_is true)
    (λ limit mode text db out h. h) refl refl (λ r. refl) (λ rows s. spared true (cast kind.Integer (column s 0)) (cast_all tenures.columns (drop 1 s)) rows)
    (λ r. rw (cast_number n, cast_number moment) refl)

-- ---- heads

abbrev pub head_params : HeadRow → Row
head_params h = head_row h

pub sets_head : (external : Bool) (h : HeadRow) (old new : State) (count : ℕ) → HaveUniqueRowids (passes by_key (head_params h)) (old.now.trees heads_tree) → IsDatabase old.now → old.now.schema ≡ vault_schema external → Executes newer_text (head_params h) old new (Ok count)
    → Leaves external old new (with_changed table.Heads (is_of_key h.bucket h.key) (with_head_columns h.head))
sets_head external h =
    updates external table.Heads refl 9 heads newer_text (head_params h) by_key (is_of_key h.bucket h.key) refl (λ r whole. keyed h.bucket h.key (number h.head.newest ∷ number h.head.count ∷ []) r)
    newer_project (with_head_columns h.head) (newer_is external) (λ limit mode text db out h. h) (λ db k. k.1.1.1.1.1.1.1.1.1.0)
    (λ r typed n is.
    let bucket : cast kind.Text (column r 1) ≡ column r 1 = column_taken heads r refl typed 0 _ refl in
    let key : cast kind.Text (column r 2) ≡ column r 2 = column_taken heads r refl typed 1 _ refl in
    rw (bucket, key, cast_number h.head.newest, cast_number h.head.count) refl)

pub drops_head : (external : Bool) (bucket key : List ℕ) (old new : State) (count : ℕ) → HaveUniqueRowids (passes by_key (Text bucket ∷ Text key ∷ [])) (old.now.trees heads_tree) → old.now.schema ≡ vault_schema external
    → Executes no_head_text (Text bucket ∷ Text key ∷ []) old new (Ok count) → Leaves external old new (without table.Heads (is_of_key bucket key))
drops_head external bucket key =
    deletes external table.Heads refl 9 heads no_head_text (Text bucket ∷ Text key ∷ []) by_key (is_of_key bucket key) refl (λ r whole. keyed bucket key [] r) (no_head_is external) (λ limit mode text db out h. h)
