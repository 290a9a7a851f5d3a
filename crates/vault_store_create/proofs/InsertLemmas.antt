-- What the statements that put the first rows do to the database.
use Rattle.std.proofs.Common.{codes, ◌≡◌, ◌≢◌, ◌==◌, ℕ, pos, List, [], ◌∷◌, map, drop, not, Bool, true, false, None, Option, Ok, refl, sym, ap, subst, ◌∙◌, arith, rules}
use Rattle.std.specs.Prelude.{IsPermutation}
use Rattle.std.specs.List.{AllByRecursion, list_all}
use Rattle.std.proofs.lemmas.List.Sorted.{IsPermutation-refl}
use Rattle.sqlite_value.specs.declared.value.Value.TheVariants.{Null, Int, Text}
use Rattle.sqlite_value.specs.Order.{Row}
use Rattle.sqlite_trees.specs.Tree.{Trees}
use Rattle.sqlite_schema.specs.declared.schema.Schema.{Schema}
use Rattle.sqlite_schema.specs.declared.schema.Table.{Table}
use Rattle.sqlite_schema.specs.declared.command.Command.TheVariants.{Insert}
use Rattle.sqlite_schema.specs.declared.command.Source.{Source}
use Rattle.sqlite_schema.specs.declared.command.Source.TheVariants.{Values}
use Rattle.sqlite_rules.specs.declared.error.Rowids.TheVariants.{Chosen}
use Rattle.sqlite_rules.specs.Cast.{cast_row}
use Rattle.sqlite_rules.specs.Edit.{edit_of, edited, numbered, put_all, Applies}
use Rattle.sqlite_rules.proofs.ActionLemmas.{no_works}
use Rattle.sqlite.specs.declared.run.Mode.{Mode}
use Rattle.sqlite.specs.Effect.{Database, value_rows}
use Rattle.sqlite.specs.Rows.{Task, Written, Sourced, stamped}
use Rattle.sqlite.specs.Does.{Tally, Does, OnRows}
use Rattle.sqlite.specs.Listing.{understood}
use Rattle.sqlite.specs.State.{State, Executes, mode_of}
use Rattle.sqlite.proofs.Callers.{statement_of, runs_as, one_step}
use Rattle.vault_base.specs.declared.refusal.Table.TheVariants as table
use Rattle.vault_core_model.specs.Rights.{rights_number}
use Rattle.vault_core_model.specs.Vault.{opening_of}
use Rattle.vault_audit_model.specs.Order.{place_of}
use Rattle.vault_audit_model.specs.SchemaVersions.{edition_of}
use Rattle.vault_audit_model.specs.Tables.{vault_schema, later_tables, meta_as, callers, meta_tree, callers_tree}
use Rattle.vault_audit_model.specs.Rows.{meta_row, caller_row, caller_columns, meta_columns_as}
use Rattle.vault_audit_model.specs.Spells.{Spells, AreSound, meta_of, tenure_rows_of, tenure_rows_in, external_rows_of, external_rows_in}
use Rattle.vault_store_create.specs.Listings.{first_meta}
use Rattle.vault_store_create.specs.Create.{HasAll, HasMetaRow, IsFilled}
use Rattle.vault_store_create.proofs.OpeningLemmas.{is_kept}
use Rattle.vault_store_create.proofs.TextLemmas.{meta_row_terms, meta_row_width, meta_row_is, meta_row_plain, registrar_text, registrar_terms, registrar_is, registrar_plain}
use Rattle.vault_audit_model.proofs.OutcomeLemmas.{went, same_value}
use Rattle.vault_audit_model.proofs.ValueLemmas.{cast_null, cast_int}

abbrev pub task_on : Option ℕ → Mode → Schema → Table → Row → Task
task_on limit mode schema base params = record { limit = limit; keys = mode.keys; schema = schema; table = record base { is_counted = false }; params = params }

-- an INSERT of rows that no foreign key acts on puts its rows into its table
added : (limit : Option ℕ) (mode : Mode) (schema : Schema) (base : Table) (params : Row) (at : ℕ) (from : Source) (db : Trees) (tally : Tally) (after : Database)
    → OnRows (task_on limit mode schema base params) mode None (Insert at from) db (Ok (tally, after))
    → (rows : List Row) × Sourced limit (record { schema = schema; trees = db }) (stamped base params) from (Ok rows)
    × Applies schema mode.keys db (edit_of db (record base { is_counted = false }) [] Chosen 0 rows) after.trees × (after.schema ≡ schema)
added limit mode schema base params at from db tally after h =
    let done = went h in
    let now = ap (λ (p : Tally × Database). p.1) (same_value (went (went done.2).2).2) in
    let given = went done.1 in
    let written = went (went given.2).2 in
    let counted = went written.2 in
    let trees : done.0.trees ≡ written.0 = ap (λ (it : Written). it.trees) (same_value counted.2) ∙ same_value counted.1 in
    let edit = edit_of db (record base { is_counted = false }) [] Chosen 0 given.0 in
    let step = one_step schema mode.keys db written.0 edit (no_works schema mode.keys 0 base.tree edit.news) written.1 in
    (given.0, given.1, subst (λ t. Applies schema mode.keys db edit t) (sym (ap (λ (d : Database). d.trees) now ∙ trees)) step, ap (λ (d : Database). d.schema) now)

-- the tables of other trees are as they were: without a row
pub others_empty : (at : ℕ) (tables : List Table) → list_all (λ t. not (t.tree == at)) tables ≡ true → (old new : Trees)
    → AllByRecursion (λ t. t.tree ≢ at → new t.tree ≡ old t.tree) tables → AllByRecursion (λ t. old t.tree ≡ []) tables → AllByRecursion (λ t. new t.tree ≡ []) tables
others_empty at [] other old new same empty = tt
others_empty at (t ∷ ts) other old new same empty =
    let both : (t.tree ≢ at) × (list_all (λ t. not (t.tree == at)) ts ≡ true) = search rules in
    (same.0 both.0 ∙ empty.0, others_empty at ts both.1 old new same.1 empty.1)

-- the others of the tables of a vault are of other trees than meta, and those after callers than callers
pub apart_from_meta : (external : Bool) → list_all (λ t. not (t.tree == meta_tree)) (drop 1 (vault_schema external).tables) ≡ true
apart_from_meta false = refl
apart_from_meta true = refl

pub apart_from_callers : (external : Bool) → list_all (λ t. not (t.tree == callers_tree)) (drop 3 (vault_schema external).tables) ≡ true
apart_from_callers false = refl
apart_from_callers true = refl

-- the row of meta, as it is stored
abbrev pub meta_stored : Bool → Row
meta_stored false = Int (pos 1) ∷ Null ∷ Int (pos 3) ∷ Int (pos 0) ∷ Int (pos 1) ∷ Int (pos 0) ∷ []
meta_stored true = Int (pos 1) ∷ Null ∷ Int (pos 4) ∷ Int (pos 0) ∷ Int (pos 1) ∷ Int (pos 0) ∷ Int (pos 0) ∷ Int (pos 1) ∷ []

-- what the statement makes of no row
abbrev pub meta_news : Bool → List Row → List Row
meta_news external there = numbered Chosen there (map (λ s. cast_row (meta_as (edition_of external)) (drop 0 s)) (value_rows [] (meta_row_width external) 1 (meta_row_terms external)))

pub meta_news_are : (external : Bool) → meta_news external [] ≡ meta_stored external ∷ []
meta_news_are false = rw (cast_int (pos 1), cast_int (pos 3), cast_int (pos 0), cast_null) refl
meta_news_are true = rw (cast_int (pos 1), cast_int (pos 4), cast_int (pos 0), cast_null) refl

meta_columns_are : (external : Bool) → meta_columns_as (edition_of external) (meta_stored external) ≡ meta_row (meta_of (opening_of external))
meta_columns_are false = refl
meta_columns_are true = refl

pub meta_given : (external : Bool) (limit : Option ℕ) (db : Database) (rows : List Row) → Sourced limit db (stamped (meta_as (edition_of external)) []) (Values (meta_row_terms external) (meta_row_width external)) (Ok rows)
    → rows ≡ value_rows [] (meta_row_width external) 1 (meta_row_terms external)
meta_given false limit db rows sourced = sourced.1
meta_given true limit db rows sourced = sourced.1

-- meta has its row after its statement
pub meta_put : (external : Bool) (old new : State) (count : ℕ) → HasAll external old.now → Executes (first_meta external) [] old new (Ok count) → HasMetaRow external new.now
meta_put external old new count was h =
    let command = Insert (place_of table.Meta) (Values (meta_row_terms external) (meta_row_width external)) in
    let schema = vault_schema external in
    let base = meta_as (edition_of external) in
    let sql = first_meta external in
    let w = runs_as sql [] old new schema was.schema command (meta_row_is external) (meta_row_plain external) count h in
    let text = statement_of sql (understood schema sql) in
    let did = subst (λ s. Does old.step_limit (mode_of old) [] (record old.now { schema = s }) text None command (Ok (w.tally, new.now))) was.schema w.changed in
    let it = added old.step_limit (mode_of old) schema base [] (place_of table.Meta) (Values (meta_row_terms external) (meta_row_width external)) old.now.trees w.tally new.now did in
    let rows = ap (λ all. edited old.now.trees (edit_of old.now.trees base [] Chosen 0 all)) (meta_given external old.step_limit (record { schema = schema; trees = old.now.trees }) it.0 it.1) in
    let put : edited old.now.trees (edit_of old.now.trees base [] Chosen 0 (value_rows [] (meta_row_width external) 1 (meta_row_terms external))) ≡ meta_stored external ∷ [] =
    ap (λ there. put_all there (meta_news external there)) was.rows.0 ∙ ap (put_all []) (meta_news_are external) in
    let stored : new.now.trees meta_tree ≡ meta_stored external ∷ [] = it.2.rows ∙ rows ∙ put in
    record {
      schema = it.3;
      meta = ap (map (meta_columns_as (edition_of external))) stored ∙ ap (λ row. row ∷ []) (meta_columns_are external);
      rows = others_empty meta_tree (drop 1 schema.tables) (apart_from_meta external) old.now.trees new.now.trees it.2.tables.1 was.rows.1;
    }

-- the tables that only some schema versions have are without a row
later_none : (external : Bool) (db : Database) → AllByRecursion (λ t. db.trees t.tree ≡ []) (later_tables (edition_of external))
    → IsPermutation (tenure_rows_of (edition_of external) (opening_of external)) (tenure_rows_in (edition_of external) db) × IsPermutation (external_rows_of (edition_of external) []) (external_rows_in (edition_of external) db)
later_none false db none = (rw none.0 (IsPermutation-refl []), IsPermutation-refl [])
later_none true db none = (rw none.0 (IsPermutation-refl []), rw none.1.0 (IsPermutation-refl []))

-- the tables are those of a new vault after the statement that puts its caller
pub registrar_put : (external : Bool) (old new : State) (count : ℕ) → HasMetaRow external old.now → Executes registrar_text [] old new (Ok count) → IsFilled external new.now
unfolding rights_number
registrar_put external old new count was h =
    let command = Insert (place_of table.Callers) (Values registrar_terms 5) in
    let schema = vault_schema external in
    let opening = opening_of external in
    let w = runs_as registrar_text [] old new schema was.schema command (registrar_is external) (registrar_plain external) count h in
    let text = statement_of registrar_text (understood schema registrar_text) in
    let did = subst (λ s. Does old.step_limit (mode_of old) [] (record old.now { schema = s }) text None command (Ok (w.tally, new.now))) was.schema w.changed in
    let it = added old.step_limit (mode_of old) schema callers [] (place_of table.Callers) (Values registrar_terms 5) old.now.trees w.tally new.now did in
    let rows = ap (λ all. edited old.now.trees (edit_of old.now.trees callers [] Chosen 0 all)) it.1.1 in
    let stored : new.now.trees callers_tree ≡ (Int (pos 1) ∷ Text (codes "registrar") ∷ Null ∷ Int (pos 1) ∷ Int (pos 0) ∷ []) ∷ [] =
    it.2.rows ∙ rows ∙ rw (was.rows.1.0, cast_null, cast_int (pos 1), cast_int (pos 0)) refl in
    let put : map caller_columns (new.now.trees callers_tree) ≡ map caller_row opening.callers = ap (map caller_columns) stored in
    let same = it.2.tables.1 in
    let departments = same.0 (omega arith) ∙ was.rows.0 in
    let none = others_empty callers_tree (drop 3 schema.tables) (apart_from_callers external) old.now.trees new.now.trees same.1.1 was.rows.1.1 in
    let later = later_none external new.now none.1.1.1.1.1.1.1 in
    let meta_same = ap (map (meta_columns_as (edition_of external))) (it.2.tables.0 (omega arith)) ∙ was.meta in
    let spelled : Spells new.now opening = record {
      schema = it.3;
      meta = rw meta_same (IsPermutation-refl _);
      departments = rw departments (IsPermutation-refl []);
      callers = subst (IsPermutation (map caller_row opening.callers)) (sym put) (IsPermutation-refl (map caller_row opening.callers));
      buckets = rw none.0 (IsPermutation-refl []);
      rules = rw none.1.0 (IsPermutation-refl []);
      entries = rw none.1.1.0 (IsPermutation-refl []);
      contents = rw none.1.1.1.0 (IsPermutation-refl []);
      settings = rw none.1.1.1.1.0 (IsPermutation-refl []);
      intake = rw none.1.1.1.1.1.0 (IsPermutation-refl []);
      tenures = later.0;
      external = later.1;
      kept = is_kept external;
    } in
    let sound : AreSound new.now opening = record { spells = spelled; numbers = rw departments (IsPermutation-refl []); heads = rw none.1.1.1.1.1.1.0 (IsPermutation-refl []) } in
    record { opening = sound; listed = w.sound }
