-- Reads over a store that works: one that fails wanted memory.
use Rattle.std.specs.Prelude.{◌≡◌, ◌≤◌, ℕ, Bool, true, List, [], length, Result, Ok, Err, None, IfErr}
use Rattle.sqlite_value.specs.Order.{Row}
use Rattle.sqlite_sql.specs.Query.{has_no_fold}
use Rattle.sqlite_schema.specs.declared.command.Command.{Command}
use Rattle.sqlite_schema.specs.declared.command.Command.TheVariants.{Select}
use Rattle.sqlite_schema.specs.Program.{lets_of}
use Rattle.sqlite_typing.specs.Types.{accepts_program}
use Rattle.sqlite_resolve.specs.declared.compiled.Compiled.{Compiled}
use Rattle.sqlite_resolve.specs.declared.error.CompileError.{CompileError}
use Rattle.sqlite_trees.specs.declared.store.Store.{Ghosts}
use Rattle.sqlite.specs.declared.error.Error.{Error}
use Rattle.sqlite.specs.Held.{Held, state}
use Rattle.sqlite.specs.Listing.{understood}
use Rattle.vault_core_model.specs.Vault.{Vault}
use Rattle.vault_audit_model.specs.Tables.{vault_schema}
use Rattle.vault_audit_rows.specs.Health.{IsHealthy, IsMemory}
use Rattle.vault_store_model.specs.Keeping.{Keeps}

-- over the tables of a vault that registers contents which are kept outside, or doesn't, the command is a query whose parameters have the types of what they are compared with, and it sums nothing
abbrev pub IsQueryWith : Bool → Row → Command → Type 0
IsQueryWith external params (Select p columns) = (lets_of p ≡ []) × (accepts_program (vault_schema external) [] p.body params ≡ true) × (p.body.group ≡ None) × (has_no_fold p.body.from ≡ true)
IsQueryWith external params _ = ⊥

-- the text is one such query, and has as many parameters
abbrev pub IsReadWith : Bool → List ℕ → Row → Result Compiled CompileError → Type 0
IsReadWith external sql params (Ok c) = (length sql ≤ c.tail) × (length params ≡ length c.names) × IsQueryWith external params c.command
IsReadWith external sql params (Err e) = ⊥

-- over the tables of each vault the text can be answered with these parameters
abbrev pub IsAskedWith : List ℕ → Row → Type 0
IsAskedWith sql params = (external : Bool) → IsReadWith external sql params (understood (vault_schema external) sql)

-- where it fails over a store that works, and whose tables spelled a vault, it wanted memory
abbrev pub WantsMemoryIfErr : {S A : Type 0} → Ghosts S → Held S → Held S → Result A Error → Type 0
WantsMemoryIfErr g old new result = IsHealthy (state g new) → (v : Vault) → Keeps (state g old) v → IfErr result IsMemory
