-- What a statement does to the rows of its table, and that it does nothing to those of the others.
use Rattle.std.proofs.Common.{◌≡◌, ◌≢◌, ◌==◌, ℕ, ℤ, ◌/◌, List, [], ◌∷◌, ◌++◌, length, map, filter, flat_map, drop, not, Bool, true, false, None, Option, Ok, Err, Result, OnOk, IsTrue, refl, sym, ap, subst, subst₂, ◌∙◌}
use Rattle.std.specs.Prelude.{IsPermutation}
use Rattle.std.specs.List.{AllByRecursion, filter_map}
use Rattle.std.proofs.lemmas.Bool.{and_parts, not-true}
use Rattle.std.proofs.lemmas.List.{map-append}
use Rattle.std.proofs.lemmas.List.Sorted.{IsPermutation-map, IsPermutation-trans, IsPermutation-append_left}
use Rattle.sqlite_keyed.proofs.ListLemmas.{IsPermutation-same, filter-map, map-map}
use Rattle.sqlite_value.specs.declared.value.Value.TheVariants.{Int}
use Rattle.sqlite_value.specs.Order.{Row}
use Rattle.sqlite_trees.specs.Tree.{Trees, rowid, put_row}
use Rattle.sqlite_sql.specs.Term.{Term, col}
use Rattle.sqlite_schema.specs.declared.schema.Constraint.TheVariants.{Datatype}
use Rattle.sqlite_schema.specs.declared.schema.Keys.TheVariants.{Enforced}
use Rattle.sqlite_schema.specs.declared.schema.Table.{Table as Columns}
use Rattle.sqlite_schema.specs.declared.command.Command.{Command}
use Rattle.sqlite_schema.specs.declared.command.Command.TheVariants.{Insert, Update, Delete}
use Rattle.sqlite_schema.specs.declared.command.Source.{Source}
use Rattle.sqlite_schema.specs.declared.command.Source.TheVariants.{Values}
use Rattle.sqlite_schema.specs.declared.program.Program.{Program}
use Rattle.sqlite_schema.specs.Rules.{parent_key, are_typed, Keeps, passes as row_passes}
use Rattle.sqlite_rules.specs.declared.error.Rowids.TheVariants.{Chosen, Given}
use Rattle.sqlite_rules.specs.Action.{works, work_by, pairs, deed_for}
use Rattle.sqlite_rules.specs.Calls.{ids_of}
use Rattle.sqlite_rules.specs.Cast.{cast_row}
use Rattle.sqlite_rules.specs.Edit.{edit_of, with_rowid, without_all, put_all, taken_by, is_taken, are_fresh, Applies}
use Rattle.sqlite_rules.specs.Lists.{Has}
use Rattle.sqlite_rules.proofs.ActionLemmas.{no_works}
use Rattle.sqlite_rules.proofs.ListLemmas.{all_has}
use Rattle.sqlite_rules.proofs.PlaceLemmas.{given}
use Rattle.sqlite.specs.declared.error.Error.{Error}
use Rattle.sqlite.specs.declared.run.Mode.{Mode}
use Rattle.sqlite.specs.Effect.{Database, IsDatabase, Answers, value_rows}
use Rattle.sqlite.specs.Rows.{Written, Sourced, stamped}
use Rattle.sqlite.specs.Does.{Tally, Does, OnRows}
use Rattle.sqlite.specs.Listing.{understood}
use Rattle.sqlite.specs.State.{State, Executes, ExecutesInside, KeepsCommit, mode_of}
use Rattle.sqlite.proofs.Callers.{IsPlain, command_of, statement_of, runs_as, one_step}
use Rattle.vault_base.specs.declared.refusal.Table.{Table}
use Rattle.vault_audit_model.specs.Tables.{vault_schema}
use Rattle.vault_audit_model.proofs.OutcomeLemmas.{went, same_value}
use Rattle.vault_audit_model.specs.Queries.{table_scan}
use Rattle.vault_store_model.specs.Rows.{Rows, AreSameRows, rows_in}
use Rattle.vault_store_model.specs.Edits.{with_row, with_changed, changed_if, without, IgnoresOrder, Edits}
use Rattle.vault_store_edits.specs.Trees.{has_table, tree_of, columns_of}
use Rattle.vault_store_edits.specs.UniqueRowids.{HaveUniqueRowids}
pub use Rattle.vault_store_edits.specs.Inserts.{task_on}
use Rattle.vault_store_model.specs.Scans.{passes, shows}
use Rattle.vault_store_edits.proofs.TableLemmas.{edited_alone}
use Rattle.vault_store_edits.proofs.ListLemmas.{put_permutes, put_all_permutes, filter_alike, left_is, changed_apart}
use Rattle.vault_store_model.proofs.ScanLemmas.{scanned}

-- over the tables of a vault, which registers contents that are kept outside or doesn't, the text is understood as this command
pub record Means (external : Bool) (sql : List ℕ) (what : Command) : Type 0 where
  pub command : command_of (understood (vault_schema external) sql) ≡ what
  pub plain : IsPlain (understood (vault_schema external) sql)

-- ---- parts of a transaction

-- what a statement leaves: the schema of a vault, and these rows
pub record Leaves (external : Bool) (old new : State) (edit : Rows → Rows) : Type 0 where
  pub schema : new.now.schema ≡ vault_schema external
  pub rows : AreSameRows (edit (rows_in external old.now)) (rows_in external new.now)
  pub sound : IsDatabase new.now

-- one that runs makes its edit
pub edits_if : (external : Bool) (text : List ℕ) (params : Row) (old new : State) (edit : Rows → Rows) (r : Result ℕ Error) → IgnoresOrder edit
    → ((count : ℕ) → old.now.schema ≡ vault_schema external → Executes text params old new (Ok count) → Leaves external old new edit) → ExecutesInside 0 text params old new r → OnOk r (Edits external old new edit)
edits_if external text params old new edit (Err e) ignores does h = tt
edits_if external text params old new edit (Ok count) ignores does (h, shown, _) = record {
  was_open = shown.was_open;
  is_open = shown.is_open;
  inside = shown.mode;
  committed = shown.committed_is;
  schema = λ has. (does count has h).schema;
  rows = λ has. (does count has h).rows;
  ignores = ignores;
}

pub sound_if : (external : Bool) (text : List ℕ) (params : Row) (old new : State) (edit : Rows → Rows) (r : Result ℕ Error) → old.now.schema ≡ vault_schema external
    → ((count : ℕ) → old.now.schema ≡ vault_schema external → Executes text params old new (Ok count) → Leaves external old new edit) → ExecutesInside 0 text params old new r → OnOk r (IsDatabase new.now)
sound_if external text params old new edit (Err e) has does h = tt
sound_if external text params old new edit (Ok count) has does (h, _, _) = (does count has h).sound

pub kept_then : (old mid new : State) → KeepsCommit old mid → KeepsCommit mid new → KeepsCommit old new
kept_then old mid new one two = record { was_open = λ h. one.was_open (two.was_open h); committed = λ h. two.committed h ∙ one.committed (two.was_open h) }

-- ---- INSERT

-- an INSERT of rows puts them into its table, since no foreign key acts on it
pub added : (external : Bool) (limit : Option ℕ) (mode : Mode) (base : Columns) (params : Row) (at : ℕ) (from : Source) (db : Trees) (tally : Tally) (after : Database)
    → OnRows (task_on external limit mode base params) mode None (Insert at from) db (Ok (tally, after))
    → (rows : List Row) × Sourced limit (record { schema = vault_schema external; trees = db }) (stamped base params) from (Ok rows)
    × Applies (vault_schema external) mode.keys db (edit_of db (record base { is_counted = false }) [] Chosen 0 rows) after.trees × (after.schema ≡ vault_schema external)
added external limit mode base params at from db tally after h =
    let done = went h in
    let now = ap (λ (p : Tally × Database). p.1) (same_value (went (went done.2).2).2) in
    let given = went done.1 in
    let written = went (went given.2).2 in
    let counted = went written.2 in
    let trees : done.0.trees ≡ written.0 = ap (λ (it : Written). it.trees) (same_value counted.2) ∙ same_value counted.1 in
    let edit = edit_of db (record base { is_counted = false }) [] Chosen 0 given.0 in
    let step = one_step (vault_schema external) mode.keys db written.0 edit (no_works (vault_schema external) mode.keys 0 base.tree edit.news) written.1 in
    (given.0, given.1, subst (λ t. Applies (vault_schema external) mode.keys db edit t) (sym (ap (λ (d : Database). d.trees) now ∙ trees)) step, ap (λ (d : Database). d.schema) now)

-- an INSERT of one row, whose columns then state this
module _ (external : Bool) (t : Table) (is_there : IsTrue (has_table external t)) (at : ℕ) (base : Columns) (sql : List ℕ) (params : Row) (terms : List Term) (width : ℕ) (source stated : Row)
    (is : command_of (understood (vault_schema external) sql) ≡ Insert at (Values terms width)) (plain : IsPlain (understood (vault_schema external) sql))
    (places : (limit : Option ℕ) (mode : Mode) (text : List ℕ) (db : Trees) (out : Result (Tally × Database) (Option Error)) → Does limit mode params (record { schema = vault_schema external; trees = db }) text None (Insert at (Values terms width)) out
    → OnRows (task_on external limit mode base params) mode None (Insert at (Values terms width)) db out)
    (one : value_rows (stamped base params) width (length terms / width) terms ≡ source ∷ []) (here : base.tree ≡ tree_of t)
    (reads_so : (rows : List Row) → columns_of external t (with_rowid Chosen rows (cast_row base (drop 0 source))) ≡ stated) where
  pub inserts : (old new : State) (count : ℕ) → old.now.schema ≡ vault_schema external → Executes sql params old new (Ok count) → Leaves external old new (with_row t stated)
  inserts old new count has h =
      let command = Insert at (Values terms width) in
      let w = runs_as sql params old new (vault_schema external) has command is plain count h in
      let text = statement_of sql (understood (vault_schema external) sql) in
      let did = subst (λ s. Does old.step_limit (mode_of old) params (record old.now { schema = s }) text None command (Ok (w.tally, new.now))) has w.changed in
      let it = added external old.step_limit (mode_of old) base params at (Values terms width) old.now.trees w.tally new.now (places old.step_limit (mode_of old) text old.now.trees _ did) in
      let step = subst (λ rows. Applies (vault_schema external) (mode_of old).keys old.now.trees (edit_of old.now.trees (record base { is_counted = false }) [] Chosen 0 rows) new.now.trees) (it.1.1 ∙ one) it.2 in
      let rows = old.now.trees base.tree in
      let new_row = with_rowid Chosen rows (cast_row base (drop 0 source)) in
      let free : is_taken rows new_row ≡ false = not-true _ (and_parts _ _ step.fresh).0 in
      let put : IsPermutation (columns_of external t new_row ∷ map (columns_of external t) rows) (map (columns_of external t) (put_row new_row rows)) = IsPermutation-map (columns_of external t) _ _ (put_permutes new_row rows free) in
      let stored = subst₂ (λ (first : Row) (all : List Row). IsPermutation (first ∷ map (columns_of external t) rows) (map (columns_of external t) all)) (reads_so rows) (sym step.rows) put in
      record {
        schema = it.3;
        rows = edited_alone external t (λ all. stated ∷ all) old.now new.now is_there (subst (λ n. AllByRecursion (λ c. c.tree ≢ n → new.now.trees c.tree ≡ old.now.trees c.tree) (vault_schema external).tables) here step.tables)
            (subst (λ n. IsPermutation (stated ∷ map (columns_of external t) (old.now.trees n)) (map (columns_of external t) (new.now.trees n))) here stored);
        sound = w.sound;
      }

-- ---- UPDATE and DELETE

-- no foreign key of a vault acts where rows go or change
pub idle : (external : Bool) (tree : ℕ) (olds news : List Row) → works (vault_schema external) Enforced 0 tree olds news ≡ []
idle false tree olds news =
    elim (length news == 0) as (λ b. flat_map (λ child. filter_map (λ ref. work_by 0 tree (pairs olds news) child ref (deed_for Enforced b ref) (parent_key (vault_schema false).tables ref)) child.references) (vault_schema false).tables ≡ [])
    [ true ↦ refl | false ↦ refl ]
idle true tree olds news =
    elim (length news == 0) as (λ b. flat_map (λ child. filter_map (λ ref. work_by 0 tree (pairs olds news) child ref (deed_for Enforced b ref) (parent_key (vault_schema true).tables ref)) child.references) (vault_schema true).tables ≡ [])
    [ true ↦ refl | false ↦ refl ]

module _ (external : Bool) (limit : Option ℕ) (mode : Mode) (base : Columns) (params : Row) (at : ℕ) (q : Program) (db : Trees) (tally : Tally) (after : Database)
    (still : (olds news : List Row) → works (vault_schema external) mode.keys 0 base.tree olds news ≡ []) where
  updated : OnRows (task_on external limit mode base params) mode None (Update at q) db (Ok (tally, after))
      → (rows : List Row) × Answers (record { schema = vault_schema external; trees = db }) q params rows
      × Applies (vault_schema external) mode.keys db (edit_of db (record base { is_counted = false }) (ids_of rows) Given 1 rows) after.trees × (after.schema ≡ vault_schema external)
  updated h =
      let done = went h in
      let now = ap (λ (p : Tally × Database). p.1) (same_value (went (went done.2).2).2) in
      let given = went done.1 in
      let written = went given.2 in
      let trees : done.0.trees ≡ written.0 = ap (λ (it : Written). it.trees) (same_value written.2) in
      let edit = edit_of db (record base { is_counted = false }) (ids_of given.0) Given 1 given.0 in
      let step = one_step (vault_schema external) mode.keys db written.0 edit (still (taken_by db edit) edit.news) written.1 in
      (given.0, given.1, subst (λ t. Applies (vault_schema external) mode.keys db edit t) (sym (ap (λ (d : Database). d.trees) now ∙ trees)) step, ap (λ (d : Database). d.schema) now)

  deleted : OnRows (task_on external limit mode base params) mode None (Delete at q) db (Ok (tally, after))
      → (rows : List Row) × Answers (record { schema = vault_schema external; trees = db }) q params rows
      × Applies (vault_schema external) mode.keys db (edit_of db (record base { is_counted = false }) (ids_of rows) Given 0 []) after.trees × (after.schema ≡ vault_schema external)
  deleted h =
      let done = went h in
      let now = ap (λ (p : Tally × Database). p.1) (same_value (went (went done.2).2).2) in
      let given = went done.1 in
      let written = went given.2 in
      let trees : done.0.trees ≡ written.0 = ap (λ (it : Written). it.trees) (same_value written.2) in
      let edit = edit_of db (record base { is_counted = false }) (ids_of given.0) Given 0 [] in
      let step = one_step (vault_schema external) mode.keys db written.0 edit (still (taken_by db edit) edit.news) written.1 in
      (given.0, given.1, subst (λ t. Applies (vault_schema external) mode.keys db edit t) (sym (ap (λ (d : Database). d.trees) now ∙ trees)) step, ap (λ (d : Database). d.schema) now)

-- The rows of a table that pass tests go, or are changed. Each of them has a rowid of its own.
module _ (external : Bool) (t : Table) (is_there : IsTrue (has_table external t)) (at : ℕ) (base : Columns) (sql : List ℕ) (params : Row) (tests : List Term) (test : Row → Bool) (here : base.tree ≡ tree_of t)
    (agrees : (r : Row) → (passes tests params r ≡ true → (id : ℤ) × (rowid r ≡ Int id)) → passes tests params r ≡ test (columns_of external t r)) where
  -- the rows whose rowid is whole where they pass pass both tests or none
  both_tests : (rows : List Row) → HaveUniqueRowids (passes tests params) rows → (r : Row) → Has rows r → passes tests params r ≡ test (columns_of external t r)
  both_tests rows unique r there = agrees r (λ passed. let it = unique r there passed in (it.0, it.1))

  module _ (is : Means external sql (Delete at (record { lets = []; body = table_scan base.tree tests (col 1 0 ∷ []) })))
      (places : (limit : Option ℕ) (mode : Mode) (text : List ℕ) (db : Trees) (out : Result (Tally × Database) (Option Error))
      → Does limit mode params (record { schema = vault_schema external; trees = db }) text None (Delete at (record { lets = []; body = table_scan base.tree tests (col 1 0 ∷ []) })) out
      → OnRows (task_on external limit mode base params) mode None (Delete at (record { lets = []; body = table_scan base.tree tests (col 1 0 ∷ []) })) db out) where
    pub deletes : (old new : State) (count : ℕ) → HaveUniqueRowids (passes tests params) (old.now.trees (tree_of t)) → old.now.schema ≡ vault_schema external → Executes sql params old new (Ok count) → Leaves external old new (without t test)
    deletes old new count unique_here has h =
        let q : Program = record { lets = []; body = table_scan base.tree tests (col 1 0 ∷ []) } in
        let command = Delete at q in
        let w = runs_as sql params old new (vault_schema external) has command is.command is.plain count h in
        let text = statement_of sql (understood (vault_schema external) sql) in
        let did = subst (λ s. Does old.step_limit (mode_of old) params (record old.now { schema = s }) text None command (Ok (w.tally, new.now))) has w.changed in
        let it = deleted external old.step_limit (mode_of old) base params at q old.now.trees w.tally new.now (idle external base.tree) (places old.step_limit (mode_of old) text old.now.trees _ did) in
        let rows = old.now.trees base.tree in
        let unique = subst (λ n. HaveUniqueRowids (passes tests params) (old.now.trees n)) (sym here) unique_here in
        let found = scanned (record { schema = vault_schema external; trees = old.now.trees }) base.tree tests (col 1 0 ∷ []) params it.0 it.1 in
        let left : new.now.trees base.tree ≡ filter (λ r. not (passes tests params r)) rows =
        it.2.rows ∙ left_is (passes tests params) rows unique it.0 (shows (col 1 0 ∷ []) params) (λ r. refl) found in
        let kept : filter (λ row. not (test row)) (map (columns_of external t) rows) ≡ map (columns_of external t) (new.now.trees base.tree) =
        filter-map (λ row. not (test row)) (columns_of external t) rows
        ∙ ap (map (columns_of external t)) (filter_alike (λ r. not (test (columns_of external t r))) (λ r. not (passes tests params r)) rows (λ r there. ap not (sym (both_tests rows unique r there))) ∙ sym left) in
        record {
          schema = it.3;
          rows = edited_alone external t (filter (λ row. not (test row))) old.now new.now is_there (subst (λ n. AllByRecursion (λ c. c.tree ≢ n → new.now.trees c.tree ≡ old.now.trees c.tree) (vault_schema external).tables) here it.2.tables)
              (subst (λ n. IsPermutation (filter (λ row. not (test row)) (map (columns_of external t) (old.now.trees n))) (map (columns_of external t) (new.now.trees n))) here (IsPermutation-same _ _ kept));
          sound = w.sound;
        }

  module _ (project : List Term) (change : Row → Row) (is : Means external sql (Update at (record { lets = []; body = table_scan base.tree tests (col 1 0 ∷ project) })))
      (places : (limit : Option ℕ) (mode : Mode) (text : List ℕ) (db : Trees) (out : Result (Tally × Database) (Option Error))
      → Does limit mode params (record { schema = vault_schema external; trees = db }) text None (Update at (record { lets = []; body = table_scan base.tree tests (col 1 0 ∷ project) })) out
      → OnRows (task_on external limit mode base params) mode None (Update at (record { lets = []; body = table_scan base.tree tests (col 1 0 ∷ project) })) db out)
      (lists : (db : Trees) → Keeps Datatype (vault_schema external) db → AllByRecursion (λ row. row_passes Datatype (vault_schema external) db base row ≡ true) (db base.tree))
      (reads_so : (r : Row) → are_typed base.key 0 base.columns (drop 1 r) ≡ true → (id : ℤ) → rowid r ≡ Int id → columns_of external t (cast_row base (drop 1 (shows (col 1 0 ∷ project) params r))) ≡ change (columns_of external t r)) where
    pub updates : (old new : State) (count : ℕ) → HaveUniqueRowids (passes tests params) (old.now.trees (tree_of t)) → IsDatabase old.now → old.now.schema ≡ vault_schema external → Executes sql params old new (Ok count)
        → Leaves external old new (with_changed t test change)
    updates old new count unique_here sound has h =
        let q : Program = record { lets = []; body = table_scan base.tree tests (col 1 0 ∷ project) } in
        let command = Update at q in
        let w = runs_as sql params old new (vault_schema external) has command is.command is.plain count h in
        let text = statement_of sql (understood (vault_schema external) sql) in
        let did = subst (λ s. Does old.step_limit (mode_of old) params (record old.now { schema = s }) text None command (Ok (w.tally, new.now))) has w.changed in
        let it = updated external old.step_limit (mode_of old) base params at q old.now.trees w.tally new.now (idle external base.tree) (places old.step_limit (mode_of old) text old.now.trees _ did) in
        let rows = old.now.trees base.tree in
        let unique = subst (λ n. HaveUniqueRowids (passes tests params) (old.now.trees n)) (sym here) unique_here in
        let show = shows (col 1 0 ∷ project) params in
        let renew = λ (s : Row). cast_row base (drop 1 s) in
        let found = scanned (record { schema = vault_schema external; trees = old.now.trees }) base.tree tests (col 1 0 ∷ project) params it.0 it.1 in
        let left : without_all rows (ids_of it.0) ≡ filter (λ r. not (passes tests params r)) rows = left_is (passes tests params) rows unique it.0 show (λ r. refl) found in
        let typed : AllByRecursion (λ row. row_passes Datatype (vault_schema external) old.now.trees base row ≡ true) rows =
        lists old.now.trees (subst (λ s. Keeps Datatype s old.now.trees) has (sound.obeys.rules Datatype)) in
        let of_old = without_all rows (ids_of it.0) in
        let stored : new.now.trees base.tree ≡ put_all of_old (map renew it.0) = it.2.rows ∙ ap (put_all of_old) (given of_old (map renew it.0)) in
        let fresh : are_fresh of_old (map renew it.0) ≡ true = subst (λ news. are_fresh of_old news ≡ true) (given of_old (map renew it.0)) it.2.fresh in
        let passed = filter (passes tests params) rows in
        let news = IsPermutation-map renew _ _ found in
        let put = IsPermutation-trans _ _ _ (IsPermutation-append_left of_old _ _ news) (put_all_permutes (map renew it.0) of_old fresh) in
        let columns = columns_of external t in
        let whole = IsPermutation-map columns _ _ put in
        let changed = changed_if test change in
        let unique_changed =
        changed_apart (passes tests params) (λ r. changed (columns r)) (λ r. columns (renew (show r))) columns rows
        (λ r there passes_here.
        let own = unique r there passes_here in
        let is_typed = (and_parts _ _ (all_has (λ row. row_passes Datatype (vault_schema external) old.now.trees base row ≡ true) rows r typed there)).0 in
        rw (sym (both_tests rows unique r there) ∙ passes_here) (reads_so r is_typed own.0 own.1))
        (λ r there fails. rw (sym (both_tests rows unique r there) ∙ fails) refl) in
        let first : map changed (map columns rows) ≡ map (λ r. changed (columns r)) rows = map-map changed columns rows in
        let parts : map (λ r. columns (renew (show r))) passed ++ map columns (filter (λ r. not (passes tests params r)) rows) ≡ map columns (map renew (map show passed) ++ of_old) =
        ap (λ l. map (λ r. columns (renew (show r))) passed ++ map columns l) (sym left) ∙ ap (λ l. l ++ map columns of_old) (sym (map-map columns renew (map show passed) ∙ map-map (λ s. columns (renew s)) show passed))
        ∙ sym (map-append columns (map renew (map show passed)) of_old) in
        let same : IsPermutation (map changed (map columns rows)) (map columns (new.now.trees base.tree)) =
        subst₂ (λ from to. IsPermutation from to) (sym first) (ap (map columns) (sym stored)) (IsPermutation-trans _ _ _ (subst (IsPermutation (map (λ r. changed (columns r)) rows)) parts unique_changed) whole) in
        record {
          schema = it.3;
          rows = edited_alone external t (map changed) old.now new.now is_there (subst (λ n. AllByRecursion (λ c. c.tree ≢ n → new.now.trees c.tree ≡ old.now.trees c.tree) (vault_schema external).tables) here it.2.tables)
              (subst (λ n. IsPermutation (map changed (map columns (old.now.trees n))) (map columns (new.now.trees n))) here same);
          sound = w.sound;
        }
