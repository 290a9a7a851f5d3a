-- What each statement on meta, departments, callers, buckets and rules does.
use Rattle.std.proofs.Common.{◌≡◌, Bool, true, false, ℕ, List, [], ◌∷◌, Option, Ok, refl, sym, subst, ◌∙◌}
use Rattle.sqlite_value.specs.declared.value.Value.TheVariants.{Text}
use Rattle.sqlite_value.specs.Order.{Row, column}
use Rattle.sqlite_schema.specs.declared.schema.Kind.TheVariants as kind
use Rattle.sqlite_rules.specs.Cast.{cast}
use Rattle.sqlite.specs.Effect.{IsDatabase}
use Rattle.sqlite.specs.State.{State, Executes}
use Rattle.vault_base.specs.declared.refusal.Table.TheVariants as table
use Rattle.vault_lock.specs.declared.retention.Default.{Default}
use Rattle.vault_tally.specs.declared.row.Row.{Row as Sums}
use Rattle.vault_audit_model.specs.declared.schema.SchemaVersion.TheVariants.{Third, Fourth}
use Rattle.vault_audit_model.specs.Rows.{default_mode, default_days, default_years}
use Rattle.vault_audit_model.specs.Tables.{vault_schema, meta_as, departments, callers, buckets, rules, meta_tree, departments_tree, callers_tree, buckets_tree, rules_tree}
use Rattle.vault_audit_model.specs.Values.{number}
use Rattle.vault_store_model.specs.Edits.{with_changed, without}
use Rattle.sqlite_tied.proofs.RuleLemmas.{and_true}
use Rattle.vault_store_edits.specs.UniqueRowids.{HaveUniqueRowids}
use Rattle.vault_store_model.specs.Scans.{passes}
use Rattle.vault_store_model.specs.Tests.{is_text, is_named, every, with_last, with_last_and_next, with_last_and_moves, with_sums, closed_row, with_default_columns, with_owner}
use Rattle.vault_audit_model.proofs.ValueLemmas.{cast_int}
use Rattle.vault_store_edits.proofs.CastLemmas.{cast_number, cast_number_or_null}
use Rattle.vault_store_edits.proofs.StatementLemmas.{Leaves, updates, deletes}
use Rattle.vault_store_edits.proofs.TestLemmas.{text_test}
use Rattle.vault_store_edits.proofs.RecordTextLemmas.{by_name, sums_text, sums_project, sums_is, closed_text, closed_project, closed_is, default_text, default_project, default_is, owner_text, owner_project, owner_is, no_rules_text, no_rules_is, last_text, last_project, last_is, next_text, next_project, next_is, moves_text, moves_project, moves_is}
use Rattle.vault_store_edits.proofs.TypeLemmas.{column_taken}

-- the name in the first column is the first parameter
named : (name : List ℕ) (rest r : Row) → passes by_name (Text name ∷ rest) r ≡ is_text name (column r 1)
named name rest r = and_true _ ∙ text_test name (column r 1)

-- ---- meta

-- the number at this place of a row of meta, whose column takes it as it is
abbrev IsTaken : Row → ℕ → Type 0
IsTaken r k = cast kind.Integer (column r k) ≡ column r k

pub sets_last : (external : Bool) (last : ℕ) (old new : State) (count : ℕ) → HaveUniqueRowids (passes [] (number last ∷ [])) (old.now.trees meta_tree) → IsDatabase old.now → old.now.schema ≡ vault_schema external
    → Executes last_text (number last ∷ []) old new (Ok count) → Leaves external old new (with_changed table.Meta every (with_last last))
sets_last false last =
    updates false table.Meta refl 0 (meta_as Third) last_text (number last ∷ []) [] every refl (λ r whole. refl) (last_project false) (with_last last) (last_is false) (λ limit mode text db out h. h) (λ db k. k.0)
    (λ r typed id is.
    let one : IsTaken r 0 = subst (λ v. cast kind.Integer v ≡ v) (sym is) (cast_int id) in
    let schema : IsTaken r 2 = column_taken (meta_as Third) r refl typed 1 _ refl in
    let next : IsTaken r 4 = column_taken (meta_as Third) r refl typed 3 _ refl in
    let moves : IsTaken r 5 = column_taken (meta_as Third) r refl typed 4 _ refl in
    rw (one, schema, next, moves, cast_number last) refl)
sets_last true last =
    updates true table.Meta refl 0 (meta_as Fourth) last_text (number last ∷ []) [] every refl (λ r whole. refl) (last_project true) (with_last last) (last_is true) (λ limit mode text db out h. h) (λ db k. k.0)
    (λ r typed id is.
    let one : IsTaken r 0 = subst (λ v. cast kind.Integer v ≡ v) (sym is) (cast_int id) in
    let schema : IsTaken r 2 = column_taken (meta_as Fourth) r refl typed 1 _ refl in
    let next : IsTaken r 4 = column_taken (meta_as Fourth) r refl typed 3 _ refl in
    let moves : IsTaken r 5 = column_taken (meta_as Fourth) r refl typed 4 _ refl in
    let place : IsTaken r 6 = column_taken (meta_as Fourth) r refl typed 5 _ refl in
    let done : IsTaken r 7 = column_taken (meta_as Fourth) r refl typed 6 _ refl in
    rw (one, schema, next, moves, place, done, cast_number last) refl)

pub sets_next : (external : Bool) (last : ℕ) (next : ℕ) (old new : State) (count : ℕ) → HaveUniqueRowids (passes [] (number last ∷ number next ∷ [])) (old.now.trees meta_tree) → IsDatabase old.now → old.now.schema ≡ vault_schema external
    → Executes next_text (number last ∷ number next ∷ []) old new (Ok count) → Leaves external old new (with_changed table.Meta every (with_last_and_next last next))
sets_next false last next =
    updates false table.Meta refl 0 (meta_as Third) next_text (number last ∷ number next ∷ []) [] every refl (λ r whole. refl) (next_project false) (with_last_and_next last next) (next_is false) (λ limit mode text db out h. h) (λ db k. k.0)
    (λ r typed id is.
    let one : IsTaken r 0 = subst (λ v. cast kind.Integer v ≡ v) (sym is) (cast_int id) in
    let schema : IsTaken r 2 = column_taken (meta_as Third) r refl typed 1 _ refl in
    let moves : IsTaken r 5 = column_taken (meta_as Third) r refl typed 4 _ refl in
    rw (one, schema, moves, cast_number last, cast_number next) refl)
sets_next true last next =
    updates true table.Meta refl 0 (meta_as Fourth) next_text (number last ∷ number next ∷ []) [] every refl (λ r whole. refl) (next_project true) (with_last_and_next last next) (next_is true) (λ limit mode text db out h. h) (λ db k. k.0)
    (λ r typed id is.
    let one : IsTaken r 0 = subst (λ v. cast kind.Integer v ≡ v) (sym is) (cast_int id) in
    let schema : IsTaken r 2 = column_taken (meta_as Fourth) r refl typed 1 _ refl in
    let moves : IsTaken r 5 = column_taken (meta_as Fourth) r refl typed 4 _ refl in
    let place : IsTaken r 6 = column_taken (meta_as Fourth) r refl typed 5 _ refl in
    let done : IsTaken r 7 = column_taken (meta_as Fourth) r refl typed 6 _ refl in
    rw (one, schema, moves, place, done, cast_number last, cast_number next) refl)

pub sets_moves : (external : Bool) (last : ℕ) (moves : ℕ) (old new : State) (count : ℕ) → HaveUniqueRowids (passes [] (number last ∷ number moves ∷ [])) (old.now.trees meta_tree) → IsDatabase old.now → old.now.schema ≡ vault_schema external
    → Executes moves_text (number last ∷ number moves ∷ []) old new (Ok count) → Leaves external old new (with_changed table.Meta every (with_last_and_moves last moves))
sets_moves false last moves =
    updates false table.Meta refl 0 (meta_as Third) moves_text (number last ∷ number moves ∷ []) [] every refl (λ r whole. refl) (moves_project false) (with_last_and_moves last moves) (moves_is false) (λ limit mode text db out h. h) (λ db k. k.0)
    (λ r typed id is.
    let one : IsTaken r 0 = subst (λ v. cast kind.Integer v ≡ v) (sym is) (cast_int id) in
    let schema : IsTaken r 2 = column_taken (meta_as Third) r refl typed 1 _ refl in
    let next : IsTaken r 4 = column_taken (meta_as Third) r refl typed 3 _ refl in
    rw (one, schema, next, cast_number last, cast_number moves) refl)
sets_moves true last moves =
    updates true table.Meta refl 0 (meta_as Fourth) moves_text (number last ∷ number moves ∷ []) [] every refl (λ r whole. refl) (moves_project true) (with_last_and_moves last moves) (moves_is true) (λ limit mode text db out h. h) (λ db k. k.0)
    (λ r typed id is.
    let one : IsTaken r 0 = subst (λ v. cast kind.Integer v ≡ v) (sym is) (cast_int id) in
    let schema : IsTaken r 2 = column_taken (meta_as Fourth) r refl typed 1 _ refl in
    let next : IsTaken r 4 = column_taken (meta_as Fourth) r refl typed 3 _ refl in
    let place : IsTaken r 6 = column_taken (meta_as Fourth) r refl typed 5 _ refl in
    let done : IsTaken r 7 = column_taken (meta_as Fourth) r refl typed 6 _ refl in
    rw (one, schema, next, place, done, cast_number last, cast_number moves) refl)

-- ---- departments

abbrev pub sums_params : List ℕ → Sums → Row
sums_params name sums = Text name ∷ number sums.admitted ∷ number sums.held ∷ number sums.removed ∷ number sums.weighted ∷ number sums.closed ∷ number sums.received ∷ number sums.handed ∷ []

pub sets_sums : (external : Bool) (name : List ℕ) (sums : Sums) (old new : State) (count : ℕ) → HaveUniqueRowids (passes by_name (sums_params name sums)) (old.now.trees departments_tree) → IsDatabase old.now → old.now.schema ≡ vault_schema external
    → Executes sums_text (sums_params name sums) old new (Ok count) → Leaves external old new (with_changed table.Departments (is_named name) (with_sums sums))
sets_sums false name sums =
    updates false table.Departments refl 1 departments sums_text (sums_params name sums) by_name (is_named name) refl (λ r whole. named name (number sums.admitted ∷ number sums.held ∷ number sums.removed ∷ number sums.weighted ∷ number sums.closed ∷ number sums.received ∷ number sums.handed ∷ []) r) sums_project (with_sums sums) (sums_is false) (λ limit mode text db out h. h) (λ db k. k.1.0)
    (λ r typed id is.
    let first : cast kind.Text (column r 1) ≡ column r 1 = column_taken departments r refl typed 0 _ refl in
    rw (first, cast_number sums.admitted, cast_number sums.held, cast_number sums.removed, cast_number sums.weighted, cast_number sums.closed, cast_number sums.received, cast_number sums.handed) refl)
sets_sums true name sums =
    updates true table.Departments refl 1 departments sums_text (sums_params name sums) by_name (is_named name) refl (λ r whole. named name (number sums.admitted ∷ number sums.held ∷ number sums.removed ∷ number sums.weighted ∷ number sums.closed ∷ number sums.received ∷ number sums.handed ∷ []) r) sums_project (with_sums sums) (sums_is true) (λ limit mode text db out h. h) (λ db k. k.1.0)
    (λ r typed id is.
    let first : cast kind.Text (column r 1) ≡ column r 1 = column_taken departments r refl typed 0 _ refl in
    rw (first, cast_number sums.admitted, cast_number sums.held, cast_number sums.removed, cast_number sums.weighted, cast_number sums.closed, cast_number sums.received, cast_number sums.handed) refl)

-- ---- callers

pub closes_caller : (external : Bool) (name : List ℕ) (old new : State) (count : ℕ) → HaveUniqueRowids (passes by_name (Text name ∷ [])) (old.now.trees callers_tree) → IsDatabase old.now → old.now.schema ≡ vault_schema external
    → Executes closed_text (Text name ∷ []) old new (Ok count) → Leaves external old new (with_changed table.Callers (is_named name) closed_row)
closes_caller external name =
    updates external table.Callers refl 2 callers closed_text (Text name ∷ []) by_name (is_named name) refl (λ r whole. named name [] r) closed_project closed_row (closed_is external) (λ limit mode text db out h. h) (λ db k. k.1.1.0)
    (λ r typed id is.
    let first : cast kind.Text (column r 1) ≡ column r 1 = column_taken callers r refl typed 0 _ refl in
    let dept : cast kind.Text (column r 2) ≡ column r 2 = column_taken callers r refl typed 1 _ refl in
    let rights : cast kind.Integer (column r 3) ≡ column r 3 = column_taken callers r refl typed 2 _ refl in
    rw (first, dept, rights, cast_number 1) refl)

-- ---- buckets

abbrev pub default_params : List ℕ → Option Default → Row
default_params name default = Text name ∷ default_mode default ∷ default_days default ∷ default_years default ∷ []

pub sets_default : (external : Bool) (name : List ℕ) (default : Option Default) (old new : State) (count : ℕ) → HaveUniqueRowids (passes by_name (default_params name default)) (old.now.trees buckets_tree) → IsDatabase old.now → old.now.schema ≡ vault_schema external
    → Executes default_text (default_params name default) old new (Ok count) → Leaves external old new (with_changed table.Buckets (is_named name) (with_default_columns default))
sets_default external name default =
    updates external table.Buckets refl 3 buckets default_text (default_params name default) by_name (is_named name) refl (λ r whole. named name (default_mode default ∷ default_days default ∷ default_years default ∷ []) r) default_project (with_default_columns default) (default_is external) (λ limit mode text db out h. h) (λ db k. k.1.1.1.0)
    (λ r typed id is.
    let first : cast kind.Text (column r 1) ≡ column r 1 = column_taken buckets r refl typed 0 _ refl in
    let dept : cast kind.Text (column r 2) ≡ column r 2 = column_taken buckets r refl typed 1 _ refl in
    let mode : cast kind.Integer (default_mode default) ≡ default_mode default = cast_number _ in
    let days : cast kind.Integer (default_days default) ≡ default_days default = cast_number_or_null _ in
    let years : cast kind.Integer (default_years default) ≡ default_years default = cast_number_or_null _ in
    rw (first, dept, mode, days, years) refl)

abbrev pub owner_params : List ℕ → List ℕ → Row
owner_params name dept = Text name ∷ Text dept ∷ []

pub sets_owner : (external : Bool) (name dept : List ℕ) (old new : State) (count : ℕ) → HaveUniqueRowids (passes by_name (owner_params name dept)) (old.now.trees buckets_tree) → IsDatabase old.now → old.now.schema ≡ vault_schema external
    → Executes owner_text (owner_params name dept) old new (Ok count) → Leaves external old new (with_changed table.Buckets (is_named name) (with_owner dept))
sets_owner external name dept =
    updates external table.Buckets refl 3 buckets owner_text (owner_params name dept) by_name (is_named name) refl (λ r whole. named name (Text dept ∷ []) r) owner_project (with_owner dept) (owner_is external) (λ limit mode text db out h. h) (λ db k. k.1.1.1.0)
    (λ r typed id is.
    let first : cast kind.Text (column r 1) ≡ column r 1 = column_taken buckets r refl typed 0 _ refl in
    let mode : cast kind.Integer (column r 3) ≡ column r 3 = column_taken buckets r refl typed 2 _ refl in
    let days : cast kind.Integer (column r 4) ≡ column r 4 = column_taken buckets r refl typed 3 _ refl in
    let years : cast kind.Integer (column r 5) ≡ column r 5 = column_taken buckets r refl typed 4 _ refl in
    rw (first, mode, days, years) refl)

-- ---- rules

pub drops_rules : (external : Bool) (bucket : List ℕ) (old new : State) (count : ℕ) → HaveUniqueRowids (passes by_name (Text bucket ∷ [])) (old.now.trees rules_tree) → old.now.schema ≡ vault_schema external → Executes no_rules_text (Text bucket ∷ []) old new (Ok count)
    → Leaves external old new (without table.Rules (is_named bucket))
drops_rules false bucket = deletes false table.Rules refl 4 rules no_rules_text (Text bucket ∷ []) by_name (is_named bucket) refl (λ r whole. named bucket [] r) (no_rules_is false) (λ limit mode text db out h. h)
drops_rules true bucket = deletes true table.Rules refl 4 rules no_rules_text (Text bucket ∷ []) by_name (is_named bucket) refl (λ r whole. named bucket [] r) (no_rules_is true) (λ limit mode text db out h. h)
