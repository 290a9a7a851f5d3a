-- What a statement that makes a table or an index does to the database.
use Rattle.std.proofs.Common.{◌≡◌, ℕ, Bool, List, [], ◌∷◌, ◌++◌, false, None, Ok, Err, Result, OnOk, sym, ap, subst, ◌∙◌}
use Rattle.std.specs.List.{AllByRecursion}
use Rattle.sqlite_value.specs.Order.{Row}
use Rattle.sqlite_trees.specs.Tree.{Trees}
use Rattle.sqlite.specs.declared.error.Error.{Error}
use Rattle.sqlite.specs.Effect.{Database}
use Rattle.sqlite.specs.Does.{Tally, Does, lacks_sequence}
use Rattle.sqlite.specs.Schema.{Schema}
use Rattle.sqlite.specs.Table.{Table as Columns}
use Rattle.sqlite.specs.Command.TheVariants.{CreateTable, CreateIndex}
use Rattle.sqlite.specs.State.{State, Executes, ExecutesInside, Writes, mode_of}
use Rattle.sqlite.proofs.Callers.{runs_as, statement_of}
use Rattle.sqlite.specs.Listing.{understood}
use Rattle.sqlite_catalog.specs.Change.{created, indexed, next_tree, KeepsRows}
use Rattle.vault_base.specs.declared.refusal.Table.{Table}
use Rattle.sqlite.specs.Compile.{index_defined_by}
use Rattle.vault_base.specs.declared.refusal.Table.TheVariants as table
use Rattle.vault_audit_model.specs.Order.{place_of}
use Rattle.vault_audit_model.specs.Tables.{entries}
use Rattle.vault_audit_model.proofs.CommandLemmas.{commanded_is, statement_is}
use Rattle.vault_audit_model.proofs.OutcomeLemmas.{went, same_value}
use Rattle.vault_audit_schema.specs.Statements.{IsCreationOf, IsIndexCreation, schema_before, schema_before_index, schema_once}
use Rattle.vault_store_create.specs.Create.{Moves, HasFirst, HasBefore, HasOnce}
use Rattle.vault_store_create.proofs.TextLemmas.{uncounted}

-- a statement of a transaction that runs is a part that goes from one kind of database to another
pub moves_if : (text : List ℕ) (params : Row) (old new : State) (From To : Database → Type 0) (r : Result ℕ Error) → ((count : ℕ) → From old.now → Executes text params old new (Ok count) → To new.now)
    → ExecutesInside 0 text params old new r → OnOk r (Moves old new From To)
moves_if text params old new From To (Err e) does h = tt
moves_if text params old new From To (Ok count) does (h, shown, _) =
    record { was_open = shown.was_open; is_open = shown.is_open; inside = shown.mode; committed = shown.committed_is; goes = λ from. does count from h }

-- where the tables have no row, nor has one more, none has
none_has_a_row : (tables : List Columns) (last : Columns) (old new : Trees) → AllByRecursion (λ t. old t.tree ≡ []) tables → KeepsRows tables old new → new last.tree ≡ []
    → AllByRecursion (λ t. new t.tree ≡ []) (tables ++ last ∷ [])
none_has_a_row [] last old new empty kept none = (none, tt)
none_has_a_row (t ∷ ts) last old new empty kept none = (kept.0 ∙ empty.0, none_has_a_row ts last old new empty.1 kept.1 none)

-- the table is there after its statement, without a row
pub table_made : (external : Bool) (t : Table) (text : List ℕ) → IsCreationOf external t text → (old new : State) (count : ℕ) → HasBefore external t old.now → Executes text [] old new (Ok count) → HasOnce external t new.now
table_made external t text it old new count was h =
    let schema = schema_before external t in
    let command = commanded_is (understood schema text) ∙ it.command in
    let whole = statement_is text (understood schema text) ∙ it.whole in
    let w = subst (λ s. Writes old new None CreateTable s [] count) whole (runs_as text [] old new schema was.schema CreateTable command it.plain count h) in
    let all = went w.changed in
    let first = went all.1 in
    let made = first.1 in
    let both : Ok made.table ≡ Ok it.made = sym made.defined ∙ it.defined in
    let same : made.table ≡ it.made = cc in
    let after : first.0.schema ≡ schema_once external t = made.is ∙ ap (λ s. created s made.table) was.schema ∙ ap (created schema) same ∙ it.next in
    let plain : lacks_sequence first.0.schema ≡ false = ap lacks_sequence after ∙ uncounted external t in
    let now : new.now ≡ first.0 = ap (λ (p : Tally × Database). p.1) (same_value all.2) ∙ same_value (rw plain at first.2) in
    let trees = ap (λ (d : Database). d.trees) now in
    let empty = subst (λ s. new.now.trees (next_tree s) ≡ []) was.schema (subst (λ (d : Trees). d (next_tree old.now.schema) ≡ []) (sym trees) made.empty) in
    let kept = subst (λ s. KeepsRows s.tables old.now.trees new.now.trees) was.schema (subst (λ (d : Trees). KeepsRows old.now.schema.tables old.now.trees d) (sym trees) made.others) in
    let last : Columns = record it.made { tree = next_tree schema } in
    let rows = none_has_a_row schema.tables last old.now.trees new.now.trees was.rows kept empty in
    record {
      schema = ap (λ (d : Database). d.schema) now ∙ after;
      rows = subst (λ (s : Schema). AllByRecursion (λ c. new.now.trees c.tree ≡ []) s.tables) it.next rows;
    }

-- none has a row where none had one, and the rows stayed
none_has_still : (tables : List Columns) (old new : Trees) → AllByRecursion (λ t. old t.tree ≡ []) tables → KeepsRows tables old new → AllByRecursion (λ t. new t.tree ≡ []) tables
none_has_still [] old new empty kept = tt
none_has_still (t ∷ ts) old new empty kept = (kept.0 ∙ empty.0, none_has_still ts old new empty.1 kept.1)

-- the index is there after its statement, and the tables are without a row still
pub index_made : (external : Bool) (text : List ℕ) → IsIndexCreation external text → (old new : State) (count : ℕ) → HasFirst external 11 old.now → Executes text [] old new (Ok count) → HasBefore external table.External new.now
index_made external text it old new count was h =
    let command = CreateIndex (place_of table.Entries) in
    let tables = schema_before_index external in
    let commands = commanded_is (understood tables text) ∙ it.command in
    let whole = statement_is text (understood tables text) ∙ it.whole in
    let w = runs_as text [] old new tables was.schema command commands it.plain count h in
    let statement = statement_of text (understood tables text) in
    let did = subst (λ s. Does old.step_limit (mode_of old) [] (record old.now { schema = s }) statement None command (Ok (w.tally, new.now))) was.schema w.changed in
    let all = went did in
    let made = all.1 in
    let both : Ok made.index ≡ Ok it.made = sym made.defined ∙ ap (index_defined_by entries) whole ∙ it.defined in
    let same : made.index ≡ it.made = cc in
    let after : all.0.schema ≡ schema_before external table.External = made.is ∙ ap (indexed tables entries) same ∙ it.next in
    let now : new.now ≡ all.0 = ap (λ (p : Tally × Database). p.1) (same_value all.2) in
    let kept = subst (λ (d : Trees). KeepsRows tables.tables old.now.trees d) (sym (ap (λ (d : Database). d.trees) now)) made.rows in
    record {
      schema = ap (λ (d : Database). d.schema) now ∙ after;
      rows = none_has_still tables.tables old.now.trees new.now.trees was.rows kept;
    }
