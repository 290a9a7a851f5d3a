use Rattle.std.proofs.Common.{◌≡◌, false, [], ◌∷◌, List}
use Rattle.sqlite_value.specs.declared.value.Value.TheVariants.{Text}
use Rattle.sqlite_value.specs.Order.{Row}
use Rattle.sqlite.specs.State.{HasCleanDisk, IsUnchanged, Survives}
use Rattle.sqlite.specs.Held.{state}
use Rattle.sqlite.specs.Given.{HasGiven}
use Rattle.vault_core_model.specs.Vault.{Vault}
use Rattle.vault_store_model.specs.Keeping.{Keeps}
use Rattle.vault_store_reads.specs.Quiet.{IsQuiet}
use Rattle.vault_store_walks.proofs.HoldingSums.{bytes_in, weight_in}
use Rattle.vault_store_walks.proofs.WalkTexts.{sized_text}
use Rattle.vault_store_walks.proofs.held.find_bucket_held.Given as goal

-- the rows so far, and the sums over them
abbrev pub invariant-rows : goal.invariant-rows
invariant-rows g l =
    let old = state g.S.Store l.fn.conn in
    let now = state g.S.Store l.rows.conn.now in
    (l.rows.conn.ghost_name ≡ l.initial.rows.conn.ghost_name) × Survives old now (IsQuiet old) × (l.fn.conn.in_transaction ≡ false → l.rows.conn.now.in_transaction ≡ false)
    × (HasCleanDisk now → (v : Vault) → Keeps old v → (given : List Row) × HasGiven g.S.Store sized_text (Text l.fn.bucket ∷ []) l.rows.conn.now given × IsUnchanged old now × (l.bytes ≡ bytes_in given) × (l.weight ≡ weight_in given))
