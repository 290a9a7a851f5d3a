-- Of a connection at rest, a crash leaves its tables and nothing else; so calls that commit nothing leave the tables.
use Rattle.std.proofs.Common.{◌≡◌, IsTrue, sym, ap₂, subst, inl, inr, ◌∙◌}
use Rattle.sqlite_trees.specs.declared.store.Store.{Ghosts}
use Rattle.sqlite_trees.specs.Tree.{Trees}
use Rattle.sqlite_trees.specs.Objects.{catalog_tree}
use Rattle.sqlite_catalog.specs.Listing.{Lists}
use Rattle.sqlite_catalog.proofs.ReadLemmas.{lists_once}
use Rattle.sqlite.specs.Effect.{Database, IsDatabase}
use Rattle.sqlite.specs.Schema.{Schema}
use Rattle.sqlite.specs.Held.{Held, state}
use Rattle.sqlite.specs.State.{HasCleanDisk, IsLive, Survives}
use Rattle.vault_core_model.specs.Vault.{Vault}
use Rattle.vault_audit_model.specs.Spells.{AreSound}
use Rattle.vault_store_apply.specs.Left.{LeavesAlone}
use Rattle.vault_store_apply.proofs.ApplyLemmas.{found_again}
use Rattle.vault_store.specs.Tables.{IsAtRest, HasTablesOf, IsUndone}

same_database : (a b : Database) → a.schema ≡ b.schema → a.trees ≡ b.trees → a ≡ b
same_database a b schema trees = ap₂ (λ (s : Schema) (t : Trees). let d : Database = record { schema = s; trees = t } in d) schema trees

-- calls that commit nothing leave the last commit
pub same_commit : {S : Type 0} (g : Ghosts S) (old new : Held S)
    → ((trees : Trees) → IsTrue (g.view old.store).is_open → g.recovers old.store trees → trees ≡ (g.view old.store).committed)
    → (IsTrue (g.view new.store).is_open → g.recovers new.store (g.view new.store).committed)
    → HasCleanDisk (state g new) → Survives (state g old) (state g new) (λ _. ⊥) → IsTrue (state g old).is_open → IsTrue (state g new).is_open
    → IsDatabase (state g old).committed → IsDatabase (state g new).committed → (state g new).committed ≡ (state g old).committed
same_commit g old new settled stays clean survives was_open is_open was is =
    let a = (state g old).committed in
    let b = (state g new).committed in
    let before : (state g old).may_leave b.trees = elim (survives.crash clean b.trees (stays is_open)) [ inl could ↦ could | inr none ↦ absurd none ] in
    let trees : b.trees ≡ a.trees = settled b.trees was_open before in
    let lists = subst (λ (t : Trees). Lists (t catalog_tree) a.schema) (sym trees) was.lists in
    same_database b a (lists_once (b.trees catalog_tree) b.schema a.schema is.lists lists) trees

pub same_tables : {S : Type 0} (g : Ghosts S) (old new : Held S)
    → ((trees : Trees) → IsTrue (g.view old.store).is_open → g.recovers old.store trees → trees ≡ (g.view old.store).committed)
    → (IsTrue (g.view new.store).is_open → g.recovers new.store (g.view new.store).committed)
    → HasCleanDisk (state g new) → Survives (state g old) (state g new) (λ _. ⊥) → IsAtRest (state g old) → IsAtRest (state g new) → HasTablesOf (state g old) (state g new)
same_tables g old new settled stays clean survives was is was_open is_open =
    let committed = same_commit g old new settled stays clean survives was_open is_open (was was_open).1 (is is_open).1 in
    ((is is_open).0 ∙ committed ∙ sym (was was_open).0, committed)

-- and so does a transaction that is undone after them
pub same_undone : {S : Type 0} (g : Ghosts S) (old mid new : Held S)
    → ((trees : Trees) → IsTrue (g.view old.store).is_open → g.recovers old.store trees → trees ≡ (g.view old.store).committed)
    → (IsTrue (g.view mid.store).is_open → g.recovers mid.store (g.view mid.store).committed)
    → HasCleanDisk (state g mid) → Survives (state g old) (state g mid) (λ _. ⊥) → IsAtRest (state g old) → IsLive (state g mid) → IsUndone (state g mid) (state g new) → HasTablesOf (state g old) (state g new)
same_undone g old mid new settled stays clean survives was live undone was_open is_open =
    let back = undone.1 is_open in
    let committed = same_commit g old mid settled stays clean survives was_open back.0 (was was_open).1 (live back.0).1 in
    (back.1 ∙ committed ∙ sym (was was_open).0, back.2 ∙ committed)

pub leaves_alone : {S : Type 0} (g : Ghosts S) (h : Held S)
    → ((trees : Trees) → IsTrue (g.view h.store).is_open → g.recovers h.store trees → trees ≡ (g.view h.store).committed)
    → IsTrue (state g h).is_open → IsAtRest (state g h) → (v : Vault) → AreSound (state g h).now v → LeavesAlone (state g h) v
leaves_alone g h settled is_open rest v sound trees may =
    let both = rest is_open in
    let kept = subst (λ (d : Database). AreSound d v) both.0 sound in
    found_again (state g h).committed v trees kept.spells.schema kept both.1 (settled trees is_open may)
