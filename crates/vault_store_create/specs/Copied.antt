-- Tables into which the rows of a vault of an earlier schema version are copied, one table after the other.
use Rattle.std.specs.Prelude.{◌≡◌, ◌≤◌, ◌⊎◌, ◌++◌, ◌∷◌, ℕ, Bool, false, nat_lt, cond, List, [], Option, None, Result, Err, IsTrue, IfErr, IsPermutation}
use Rattle.std.specs.List.{AllByRecursion}
use Rattle.sqlite_schema.specs.declared.command.Command.TheVariants.{Insert}
use Rattle.sqlite_schema.specs.declared.schema.Keys.TheVariants.{Enforced}
use Rattle.sqlite_value.specs.Order.{Row}
use Rattle.sqlite.specs.declared.error.Error.{Error}
use Rattle.sqlite.specs.declared.run.Mode.{Mode}
use Rattle.sqlite.specs.Does.{Does}
use Rattle.sqlite.specs.Effect.{Database, IsDatabase}
use Rattle.sqlite.specs.State.{State, Begins}
use Rattle.vault_base.specs.declared.refusal.Table.{Table}
use Rattle.vault_core_model.specs.Vault.{Vault}
use Rattle.vault_audit_model.specs.declared.schema.SchemaVersion.{SchemaVersion}
use Rattle.vault_audit_model.specs.Order.{place_of}
use Rattle.vault_audit_model.specs.Tables.{vault_schema}
use Rattle.vault_audit_model.specs.Spells.{AreSoundAs}
use Rattle.vault_audit_rows.specs.Health.{IsHealthy, IsMemory, Asks}
use Rattle.vault_audit_rows.specs.Walk.{Goes}
use Rattle.vault_store_model.specs.Rows.{Rows, AreSameRows, rows_in, rows_of}
use Rattle.vault_store_model.specs.Edits.{with_row, with_rows}
use Rattle.vault_store_edits.specs.Inserts.{insert_of}
use Rattle.vault_store_edits.specs.Trees.{made_as}
use Rattle.vault_store_create.specs.RowsOf.{IsRowOf, put_of}

-- A part of a transaction goes from one database to another, and leaves the last commit alone.
pub record Steps (old new : State) (Goes : Database → Database → Type 0) : Type 0 where
  pub was_open : IsTrue old.is_open
  pub is_open : IsTrue new.is_open
  pub inside : IsTrue new.in_transaction
  pub committed : new.committed ≡ old.committed
  pub goes : Goes old.now new.now

-- the vault of a copy: it registers contents that are kept outside, or doesn't, and has all else as the one that was copied
abbrev pub registering : Bool → Vault → Vault
registering external v = record v { external = external }

-- the tables of such a vault have one row more
pub record HasRowMore (external : Bool) (t : Table) (row : Row) (old new : Database) : Type 0 where
  pub schema : new.schema ≡ vault_schema external
  pub rows : AreSameRows (with_row t row (rows_in external old)) (rows_in external new)
  pub listed : IsDatabase new

-- a row that states a record of the table is put in as it is
abbrev pub PutsRow : Bool → Table → Row → Database → Database → Type 0
PutsRow external t row old new = old.schema ≡ vault_schema external → IsRowOf t row → HasRowMore external t row old new

-- the rows of the first n tables, and none of the others
abbrev pub first_rows : Vault → ℕ → Rows
first_rows v k t = cond (nat_lt (place_of t) k) (rows_of v t) []

-- the first n tables have the rows of the vault, and the others none
pub record HasFirstRows (v : Vault) (k : ℕ) (db : Database) : Type 0 where
  pub schema : db.schema ≡ vault_schema v.external
  pub rows : AreSameRows (first_rows v k) (rows_in v.external db)
  pub listed : 1 ≤ k → IsDatabase db

-- the same of the copy of each vault that the tables of that schema version are sound for
abbrev pub HasCopied : SchemaVersion → Bool → Database → ℕ → Database → Type 0
HasCopied n external from k db = (v : Vault) → AreSoundAs n from v → HasFirstRows (registering external v) k db

-- ---- rows that are refused

-- foreign keys are looked at, at each statement
abbrev pub watchful : Mode
watchful = record { keys = Enforced; in_doubt = false; may_wait = false }

-- The statement that puts the row into the table of such a vault is refused, with no limit on its steps: the row breaks a rule of the tables, or is too big for them.
abbrev pub Refuses : Bool → Table → Row → Database → Type 0
Refuses external t row db =
    (stop : Option Error) × Does None watchful (put_of t external row) db [] None (Insert (place_of t) (insert_of (made_as external t))) (Err stop)

-- It is refused for a row of the vault, which comes after these of its table, while the tables before that have their rows.
pub record RefusesARow (v : Vault) : Type 0 where
  pub table : Table
  pub before : List Row
  pub row : Row
  pub after : List Row
  pub all : IsPermutation (rows_of v table) (before ++ row ∷ after)
  pub now : Database
  pub schema : now.schema ≡ vault_schema v.external
  pub has : AreSameRows (with_rows table (λ _. before) (first_rows v (place_of table))) (rows_in v.external now)
  pub refused : Refuses v.external table row now

-- a store that works refuses a part of the copy of this vault where memory runs out, or for a row of it
abbrev pub IsRefusedFor : Vault → Error → Type 0
IsRefusedFor v e = IsMemory e ⊎ RefusesARow v

-- a text asks for rows that state records of the table
pub record AsksFor (t : Table) (sql : List ℕ) (s : State) : Type 0 where
  pub asks : Asks s.now.schema sql
  pub stated : IsTrue s.is_open → (rows : List Row) → Begins sql [] s rows → AllByRecursion (IsRowOf t) rows

-- a row of what is asked for is refused, after some that begin the answer were put in
abbrev pub StopsAt : Bool → Table → List ℕ → State → Database → Type 0
StopsAt external t sql s first =
    (before : List Row) × (row : Row) × (now : Database) × IsTrue s.is_open × Begins sql [] s (before ++ row ∷ []) × Goes (λ x r y. PutsRow external t r x y) first before now
    × Refuses external t row now

-- Of tables of that schema version that are sound for a vault: two stores that work, of which the second has copied the first n tables inside a transaction, refuse more of the copy for these causes alone.
abbrev pub FailsForARow : {A : Type 0} → SchemaVersion → Bool → ℕ → State → State → State → State → Result A Error → Type 0
FailsForARow n external k old later new next result =
    (v : Vault) → AreSoundAs n old.now v → HasCopied n external old.now k new.now → IsHealthy later → IsHealthy next → IsTrue new.in_transaction → IsTrue new.is_open
    → IfErr result (IsRefusedFor (registering external v))
