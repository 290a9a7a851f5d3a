-- The way from a store without tables to a new vault.
use Rattle.std.specs.Prelude.{◌≡◌, ◌⊎◌, ℕ, Bool, [], ◌∷◌, map, drop, IsTrue, Result, OnOk, IfErr}
use Rattle.std.specs.List.{AllByRecursion}
use Rattle.sqlite_trees.specs.Tree.{Trees}
use Rattle.sqlite_catalog.specs.Listing.{IsSound}
use Rattle.sqlite.specs.declared.error.Error.{Error}
use Rattle.sqlite.specs.Effect.{Database, IsDatabase}
use Rattle.sqlite.specs.Schema.{Schema}
use Rattle.sqlite.specs.State.{State, HasCleanDisk}
use Rattle.sqlite_trees.specs.declared.store.Store.{Ghosts}
use Rattle.sqlite.specs.Held.{Held, state}
use Rattle.vault_base.specs.declared.refusal.Table.{Table}
use Rattle.vault_base.specs.declared.refusal.Table.TheVariants as table
use Rattle.vault_base.specs.declared.refusal.Refusal.{Refusal}
use Rattle.vault_base.specs.declared.refusal.Refusal.TheVariants.{Damaged, Memory, Device}
use Rattle.vault_core_model.specs.Vault.{opening_of}
use Rattle.vault_audit_model.specs.SchemaVersions.{edition_of}
use Rattle.vault_audit_model.specs.Tables.{vault_schema, meta_tree}
use Rattle.vault_audit_model.specs.Rows.{meta_row, meta_columns_as}
use Rattle.vault_audit_model.specs.Spells.{meta_of, AreSound}
use Rattle.vault_audit_schema.specs.Statements.{schema_of_first, schema_before, schema_once}
use Rattle.vault_audit_rows.specs.Health.{IsHealthy, IsMemory}
use Rattle.vault_store_create.specs.Copied.{Steps}

-- these tables and no others are there, and none has a row
pub record HasEmpty (schema_is : Schema) (db : Database) : Type 0 where
  pub schema : db.schema ≡ schema_is
  pub rows : AllByRecursion (λ t. db.trees t.tree ≡ []) schema_is.tables

-- the first n of a new vault, which registers contents that are kept outside, or doesn't
abbrev pub HasFirst : Bool → ℕ → Database → Type 0
HasFirst external n = HasEmpty (schema_of_first external n)

-- those that are there before one is made, and once it is
abbrev pub HasBefore : Bool → Table → Database → Type 0
HasBefore external t = HasEmpty (schema_before external t)

abbrev pub HasOnce : Bool → Table → Database → Type 0
HasOnce external t = HasEmpty (schema_once external t)

-- all of them, and the index of the entries
abbrev pub HasAll : Bool → Database → Type 0
HasAll external = HasEmpty (vault_schema external)

-- A part of a transaction goes from a database of one kind to one of another, and leaves the last commit alone.
abbrev pub Moves : State → State → (Database → Type 0) → (Database → Type 0) → Type 0
Moves old new From To = Steps old new (λ a b. From a → To b)

-- All tables are there, and meta has its row; none has another.
pub record HasMetaRow (external : Bool) (db : Database) : Type 0 where
  pub schema : db.schema ≡ vault_schema external
  pub meta : map (meta_columns_as (edition_of external)) (db.trees meta_tree) ≡ meta_row (meta_of (opening_of external)) ∷ []
  pub rows : AllByRecursion (λ t. db.trees t.tree ≡ []) (drop 1 (vault_schema external).tables)

-- the tables of a new vault, and the list of them
pub record IsFilled (external : Bool) (db : Database) : Type 0 where
  pub opening : AreSound db (opening_of external)
  pub listed : IsDatabase db

-- what the next opening reads in these trees is a new vault: they list the schema of every vault of its kind, and no other
pub record AreOpening (external : Bool) (trees : Trees) : Type 0 where
  pub opening : AreSound (record { schema = vault_schema external; trees = trees }) (opening_of external)
  pub listed : IsSound (vault_schema external) trees

-- the refusals of a making that was begun
abbrev pub IsFault : Refusal → Type 0
IsFault r = (r ≡ Memory) ⊎ (r ≡ Device)

-- where no table is, the first of a vault's isn't there
abbrev pub without_tables : Refusal
without_tables = Damaged table.Meta

-- inside a transaction: where it is answered, tables of the one kind became tables of the other
abbrev pub MovesInside : {S A E : Type 0} → Ghosts S → Held S → Held S → Result A E → (Database → Type 0) → (Database → Type 0) → Type 0
MovesInside g old new result before after = HasCleanDisk (state g new) → IsTrue old.in_transaction → OnOk result (Moves (state g old) (state g new) before after)

-- inside a transaction, with tables of the one kind, a store that works refuses only where memory runs out
abbrev pub FailsForMemory : {S A : Type 0} → Ghosts S → Held S → Held S → Result A Error → (Database → Type 0) → Type 0
FailsForMemory g old new result before = IsHealthy (state g new) → IsTrue old.in_transaction → before (state g old).now → IfErr result IsMemory
