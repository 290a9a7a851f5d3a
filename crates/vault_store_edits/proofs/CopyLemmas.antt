-- What an INSERT of the rows of a query over another table does.
use Rattle.std.proofs.Common.{◌≡◌, ◌≢◌, ℕ, List, [], ◌∷◌, ◌++◌, map, filter, drop, Bool, None, Option, Ok, Result, IsTrue, refl, sym, ap, subst, subst₂, ◌∙◌}
use Rattle.std.specs.Prelude.{IsPermutation}
use Rattle.std.specs.List.{AllByRecursion}
use Rattle.std.proofs.lemmas.List.{map-append}
use Rattle.std.proofs.lemmas.List.Sorted.{IsPermutation-map, IsPermutation-trans, IsPermutation-append_left}
use Rattle.sqlite_keyed.proofs.ListLemmas.{filter-map, map-map}
use Rattle.sqlite_value.specs.declared.keys.Collation.{Collation}
use Rattle.sqlite_value.specs.Order.{Row}
use Rattle.sqlite_trees.specs.Tree.{Trees, put_row}
use Rattle.sqlite_sql.specs.Term.{Term}
use Rattle.sqlite_schema.specs.declared.schema.Table.{Table as Columns}
use Rattle.sqlite_schema.specs.declared.command.Command.{Command}
use Rattle.sqlite_schema.specs.declared.command.Command.TheVariants.{Insert}
use Rattle.sqlite_schema.specs.declared.command.Source.TheVariants as source
use Rattle.sqlite_schema.specs.declared.program.Program.{Program}
use Rattle.sqlite_rules.specs.declared.error.Rowids.TheVariants.{Chosen}
use Rattle.sqlite_rules.specs.Cast.{cast_row}
use Rattle.sqlite_rules.specs.Edit.{with_rowid, numbered, put_all}
use Rattle.sqlite.specs.declared.error.Error.{Error}
use Rattle.sqlite.specs.declared.run.Mode.{Mode}
use Rattle.sqlite.specs.Rows.{Sourced, stamped}
use Rattle.sqlite.specs.Does.{Tally, Does, OnRows}
use Rattle.sqlite.specs.Effect.{Database}
use Rattle.sqlite.specs.Listing.{understood}
use Rattle.sqlite.specs.State.{State, Executes, mode_of}
use Rattle.sqlite.proofs.Callers.{statement_of, runs_as}
use Rattle.vault_base.specs.declared.refusal.Table.{Table}
use Rattle.vault_audit_model.specs.Tables.{vault_schema}
use Rattle.vault_store_model.specs.Copies.{with_copies}
use Rattle.vault_store_model.specs.Rows.{rows_in}
use Rattle.vault_store_model.specs.Scans.{scan_as, passes, shows}
use Rattle.vault_store_model.proofs.ScanLemmas.{scanned_as}
use Rattle.vault_store_edits.specs.Trees.{has_table, tree_of, columns_of}
use Rattle.vault_store_edits.proofs.ListLemmas.{put_all_permutes}
use Rattle.vault_store_edits.proofs.StatementLemmas.{Leaves, Means, task_on, added}
use Rattle.vault_store_edits.proofs.TableLemmas.{edited_alone, rows_are}

-- the rows that are put in, stated by their columns, which a rowid that is chosen doesn't touch
stated_rows : (columns : Row → Row) (base : Columns) → ((rows : List Row) (s : Row) → columns (with_rowid Chosen rows (cast_row base (drop 0 s))) ≡ columns (cast_row base (drop 0 s)))
    → (rows sources : List Row) → map columns (numbered Chosen rows (map (λ s. cast_row base (drop 0 s)) sources)) ≡ map (λ s. columns (cast_row base (drop 0 s))) sources
stated_rows columns base spares rows [] = refl
stated_rows columns base spares rows (s ∷ ss) =
    rw (spares rows s, stated_rows columns base spares (put_row (with_rowid Chosen rows (cast_row base (drop 0 s))) rows) ss) refl

-- INSERT INTO t SELECT project FROM from WHERE tests
abbrev pub copying : Table → ℕ → List Term → List Term → List Collation → Command
copying from at tests project collations = Insert at (source.Query (record { lets = []; body = scan_as collations (tree_of from) tests project }))

module _ (external : Bool) (t from : Table) (is_there : IsTrue (has_table external t)) (from_there : IsTrue (has_table external from)) (at : ℕ) (base : Columns) (sql : List ℕ) (params : Row) (tests project : List Term) (collations : List Collation) (test : Row → Bool) (made : Row → Row)
    (is : Means external sql (copying from at tests project collations))
    (places : (limit : Option ℕ) (mode : Mode) (text : List ℕ) (db : Trees) (out : Result (Tally × Database) (Option Error))
    → Does limit mode params (record { schema = vault_schema external; trees = db }) text None (copying from at tests project collations) out
    → OnRows (task_on external limit mode base params) mode None (copying from at tests project collations) db out)
    (same_params : stamped base params ≡ params) (here : base.tree ≡ tree_of t)
    (agrees : (r : Row) → passes tests params r ≡ test (columns_of external from r))
    (spares : (rows : List Row) (s : Row) → columns_of external t (with_rowid Chosen rows (cast_row base (drop 0 s))) ≡ columns_of external t (cast_row base (drop 0 s)))
    (reads_so : (r : Row) → columns_of external t (cast_row base (drop 0 (shows project params r))) ≡ made (columns_of external from r)) where
  pub copies : (old new : State) (count : ℕ) → old.now.schema ≡ vault_schema external → Executes sql params old new (Ok count) → Leaves external old new (with_copies t from test made)
  copies old new count has h =
      let q : Program = record { lets = []; body = scan_as collations (tree_of from) tests project } in
      let command = Insert at (source.Query q) in
      let w = runs_as sql params old new (vault_schema external) has command is.command is.plain count h in
      let text = statement_of sql (understood (vault_schema external) sql) in
      let did = subst (λ s. Does old.step_limit (mode_of old) params (record old.now { schema = s }) text None command (Ok (w.tally, new.now))) has w.changed in
      let it = added external old.step_limit (mode_of old) base params at (source.Query q) old.now.trees w.tally new.now (places old.step_limit (mode_of old) text old.now.trees _ did) in
      let columns = columns_of external t in
      let renew = λ (s : Row). cast_row base (drop 0 s) in
      let rows = old.now.trees base.tree in
      let others = old.now.trees (tree_of from) in
      let db : Database = record { schema = vault_schema external; trees = old.now.trees } in
      let found = scanned_as collations db (tree_of from) tests project params it.0 (subst (λ ps. Sourced old.step_limit db ps (source.Query q) (Ok it.0)) same_params it.1) in
      let news = numbered Chosen rows (map renew it.0) in
      let put : IsPermutation (news ++ rows) (put_all rows news) = put_all_permutes news rows it.2.fresh in
      let stated : map columns news ≡ map (λ s. columns (renew s)) it.0 = stated_rows columns base spares rows it.0 in
      let shown : IsPermutation (map (λ s. columns (renew s)) (map (shows project params) (filter (passes tests params) others))) (map (λ s. columns (renew s)) it.0) = IsPermutation-map (λ s. columns (renew s)) _ _ found in
      let sources : map (λ s. columns (renew s)) (map (shows project params) (filter (passes tests params) others)) ≡ map made (filter test (map (columns_of external from) others)) =
      map-map (λ s. columns (renew s)) (shows project params) (filter (passes tests params) others)
      ∙ ap (λ f. map f (filter (passes tests params) others)) (λ i r. reads_so r i)
      ∙ ap (λ p. map (λ r. made (columns_of external from r)) (filter p others)) (λ i r. agrees r i)
      ∙ sym (map-map made (columns_of external from) (filter (λ r. test (columns_of external from r)) others))
      ∙ ap (map made) (sym (filter-map test (columns_of external from) others)) in
      let given : IsPermutation (map made (filter test (rows_in external old.now from))) (map columns news) =
      subst₂ (λ xs ys. IsPermutation xs ys) (sources ∙ ap (λ rs. map made (filter test rs)) (sym (rows_are external old.now from from_there))) (sym stated) shown in
      let whole = IsPermutation-map columns _ _ put in
      let same : IsPermutation (map made (filter test (rows_in external old.now from)) ++ map columns rows) (map columns (new.now.trees base.tree)) =
      IsPermutation-trans _ _ _ (IsPermutation-append_left (map columns rows) _ _ given)
      (subst₂ (λ xs ys. IsPermutation xs (map columns ys)) (map-append columns news rows) (sym it.2.rows) whole) in
      record {
        schema = it.3;
        rows = edited_alone external t (λ all. map made (filter test (rows_in external old.now from)) ++ all) old.now new.now is_there (subst (λ n. AllByRecursion (λ c. c.tree ≢ n → new.now.trees c.tree ≡ old.now.trees c.tree) (vault_schema external).tables) here it.2.tables)
            (subst (λ n. IsPermutation (map made (filter test (rows_in external old.now from)) ++ map columns (old.now.trees n)) (map columns (new.now.trees n))) here same);
        sound = w.sound;
      }
