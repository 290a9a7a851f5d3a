-- What a statement that makes a table or an index says, over the tables that are there before it.
use Rattle.std.specs.Prelude.{◌≡◌, ◌≤◌, ◌+◌, ◌*◌, ◌^◌, ◌&&◌, ◌==◌, nat_lt, ℕ, Bool, true, false, List, [], ◌∷◌, length, filter, take, drop, codes, Result, Ok, Err, IsUtf8}
use Rattle.std.specs.List.{list_any}
use Rattle.sqlite_value.specs.declared.value.Value.TheVariants.{Text}
use Rattle.sqlite_resolve.specs.declared.compiled.Compiled.{Compiled}
use Rattle.sqlite_resolve.specs.declared.error.CompileError.{CompileError}
use Rattle.sqlite_catalog.specs.Change.{next_tree, is_used, is_reserved, automatics, created, indexed}
use Rattle.sqlite_catalog.specs.Listing.{is_formed, is_fit}
use Rattle.sqlite_schema.specs.Rules.{table_reals, index_reals}
use Rattle.sqlite_schema.specs.declared.schema.Index.{Index}
use Rattle.sqlite.specs.Command.TheVariants.{CreateTable, CreateIndex}
use Rattle.sqlite.specs.Compile.{table_defined_by, index_defined_by}
use Rattle.sqlite.specs.Given.{IsPlain}
use Rattle.sqlite.specs.Listing.{understood}
use Rattle.sqlite.specs.Schema.{Schema}
use Rattle.sqlite.specs.Table.{Table as Columns}
use Rattle.vault_base.specs.declared.refusal.Table.{Table}
use Rattle.vault_base.specs.declared.refusal.Table.TheVariants as table
use Rattle.vault_audit_model.specs.Commands.{commanded, statement_in}
use Rattle.vault_audit_model.specs.Order.{place_of}
use Rattle.vault_audit_model.specs.SchemaVersions.{edition_of, newest}
use Rattle.vault_audit_model.specs.Tables.{schema_of, meta_as, entries}

-- The tables in the order in which they are made. A vault's file has the last if it registers contents that are kept outside, and of the others meta alone depends on that.
abbrev pub tables_in_order : Bool → List Columns
tables_in_order external = meta_as (edition_of external) ∷ drop 1 (schema_of newest).tables

-- the first n of them, with the indexes that they bring
abbrev pub schema_of_first : Bool → ℕ → Schema
schema_of_first external n = record {
  tables = take n (tables_in_order external);
  indexes = filter (λ i. i.is_unique && list_any (λ t. t.tree == i.table) (take n (tables_in_order external))) (schema_of newest).indexes;
  views = [];
}

-- the first n of them, with all indexes
abbrev pub schema_with_indexes : Bool → ℕ → Schema
schema_with_indexes external n = record { tables = take n (tables_in_order external); indexes = (schema_of newest).indexes; views = [] }

-- what is there before a table is made; the index of the entries is made before the last table
abbrev pub schema_before : Bool → Table → Schema
schema_before external table.External = schema_with_indexes external (place_of table.External)
schema_before external t = schema_of_first external (place_of t)

-- what is there once it is made: the vault's schema, if it is the last that the file has and all indexes are made
abbrev pub schema_once : Bool → Table → Schema
schema_once external table.External = schema_with_indexes external (place_of table.External + 1)
schema_once external t = schema_of_first external (place_of t + 1)

-- what is there before that index is made: all tables but the last
abbrev pub schema_before_index : Bool → Schema
schema_before_index external = schema_of_first external (place_of table.External)

-- the text is one statement, without a parameter
abbrev pub IsAlone : List ℕ → Result Compiled CompileError → Type 0
IsAlone text (Ok c) = (length text ≤ c.tail) × (c.names ≡ [])
IsAlone text (Err e) = ⊥

-- a store that has these tables takes the text: the table's name and those of its indexes are free, its key is one that SQL has, and its row in the list of tables is short
pub record IsTakenAsTable (schema : Schema) (text : List ℕ) (made : Columns) : Type 0 where
  pub utf8 : IsUtf8 text
  pub named : IsUtf8 made.name
  pub free : is_used schema made.name ≡ false
  pub apart : list_any (λ (i : Index). is_used schema i.name) (automatics made 0 0 made.uniques) ≡ false
  pub own : is_reserved made.name ≡ false
  pub low : nat_lt (next_tree schema + length made.uniques) 65536 ≡ true
  pub reals : table_reals made ≡ 0
  pub keys : list_any (λ key. nat_lt 0 (index_reals 0 key)) made.uniques ≡ false
  pub formed : is_formed made ≡ true
  pub fit : is_fit (Text (codes "table")) (Text made.name) (Text made.name) (Text text) ≡ true
  pub short : nat_lt (2 * length made.name + length text + 200) (10 ^ 9) ≡ true

-- the same of an index of a table
pub record IsTakenAsIndex (schema : Schema) (text : List ℕ) (of : Columns) (made : Index) : Type 0 where
  pub utf8 : IsUtf8 text
  pub named : IsUtf8 made.name
  pub owned : IsUtf8 of.name
  pub free : is_used schema made.name ≡ false
  pub own : is_reserved made.name ≡ false
  pub low : nat_lt (next_tree schema) 65536 ≡ true
  pub reals : table_reals of ≡ 0
  pub key : index_reals 0 made.columns ≡ 0
  pub fit : is_fit (Text (codes "index")) (Text made.name) (Text of.name) (Text text) ≡ true
  pub short : nat_lt (length made.name + length of.name + length text + 200) (10 ^ 9) ≡ true

-- the text, all of it, makes this table as a vault has it, after those that come before it
pub record IsCreationOf (external : Bool) (t : Table) (text : List ℕ) : Type 0 where
  pub command : commanded (understood (schema_before external t) text) ≡ CreateTable
  pub whole : statement_in text (understood (schema_before external t) text) ≡ text
  pub plain : IsPlain (understood (schema_before external t) text)
  pub alone : IsAlone text (understood (schema_before external t) text)
  pub made : Columns
  pub defined : table_defined_by text ≡ Ok made
  pub next : created (schema_before external t) made ≡ schema_once external t
  pub taken : IsTakenAsTable (schema_before external t) text made

-- the text, all of it, makes the index of the entries, after all tables but the last
pub record IsIndexCreation (external : Bool) (text : List ℕ) : Type 0 where
  pub command : commanded (understood (schema_before_index external) text) ≡ CreateIndex (place_of table.Entries)
  pub whole : statement_in text (understood (schema_before_index external) text) ≡ text
  pub plain : IsPlain (understood (schema_before_index external) text)
  pub alone : IsAlone text (understood (schema_before_index external) text)
  pub made : Index
  pub defined : index_defined_by entries text ≡ Ok made
  pub next : indexed (schema_before_index external) entries made ≡ schema_before external table.External
  pub taken : IsTakenAsIndex (schema_before_index external) text entries made
