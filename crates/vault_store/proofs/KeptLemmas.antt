-- What each call leaves of the vault that is kept, and of what a crash leaves.
use Rattle.std.proofs.Common.{◌≡◌, ℕ, List, [], ◌∷◌, ◌++◌, false, IsTrue, refl, sym, ap, subst, inl, inr, ◌∙◌}
use Rattle.std.proofs.Math.Logic.{∥∥₁_elim, ∥∥₁_map}
use Rattle.std.specs.Coded.{Coded-set, coded_bool}
use Rattle.sqlite_trees.specs.declared.store.Store.{Ghosts}
use Rattle.sqlite_trees.specs.Tree.{Trees}
use Rattle.sqlite.specs.declared.error.Error.{Error}
use Rattle.sqlite.specs.Effect.{Database, IsDatabase}
use Rattle.sqlite.specs.Held.{Held, state}
use Rattle.sqlite.specs.State.{State, HasCleanDisk, Survives}
use Rattle.vault_core_model.specs.Change.{changed}
use Rattle.vault_core_model.specs.declared.change.Change.{Change}
use Rattle.vault_core_model.specs.declared.halt.Fault.{Fault}
use Rattle.vault_core_model.specs.Halts.{is_device_fault}
use Rattle.vault_core_model.specs.Vault.{Vault}
use Rattle.vault_audit.specs.Health.{IsMemory}
use Rattle.vault_audit_model.specs.Spells.{AreSound}
use Rattle.vault_audit_model.specs.Tables.{vault_schema}
use Rattle.vault_store_apply.specs.Left.{LeavesAlone}
use Rattle.vault_store_model.specs.Keeping.{AreTreesOf, Keeps}
use Rattle.vault_store_model.proofs.KeptLemmas.{external_changed}
use Rattle.vault_store_reads.specs.Quiet.{OnlyReads}
use Rattle.vault_store.specs.Blame.{fault_of}
use Rattle.vault_store.specs.Kept.{after}
use Rattle.vault_store.specs.Left.{IsFoundWith, IsOneFoundIn, IsKept}

-- a change more
pub after_push : (v : Vault) (made : List (ℕ × Change)) (t : ℕ) (c : Change) → after v (made ++ (t, c) ∷ []) ≡ changed (after v made) t c
after_push v [] t c = refl
after_push v (m ∷ ms) t c = after_push (changed v m.0 m.1) ms t c

-- what was found before another change was refused
pub found_before : (v : Vault) (cs : List (ℕ × Change)) (c : ℕ × Change) (trees : Trees) → IsOneFoundIn v cs trees → IsOneFoundIn v (cs ++ c ∷ []) trees
found_before v [] c trees found = inr found
found_before v (d ∷ ds) c trees (inl found) = inl found
found_before v (d ∷ ds) c trees (inr more) = inr (found_before v ds c trees more)

-- what is found with that change
pub found_with : (v : Vault) (cs : List (ℕ × Change)) (c : ℕ × Change) (trees : Trees) → IsFoundWith v c trees → IsOneFoundIn v (cs ++ c ∷ []) trees
found_with v [] c trees found = inl found
found_with v (d ∷ ds) c trees found = inr (found_with v ds c trees found)

-- a call that changes no vault that was kept, and after which a crash leaves nothing that it didn't leave before
still_kept : (old new : State) (v : Vault) (refused : List (ℕ × Change)) → (HasCleanDisk new → HasCleanDisk old) → (HasCleanDisk new → (w : Vault) → Keeps old w → Keeps new w)
    → (HasCleanDisk new → Keeps old v → (trees : Trees) → new.may_leave trees → old.may_leave trees) → ∥ (HasCleanDisk old → IsKept old v refused) ∥₁ → ∥ (HasCleanDisk new → IsKept new v refused) ∥₁
still_kept old new v refused honest same left kept =
    ∥∥₁_map kept (λ kept clean.
    let it = kept (honest clean) in
    record { sound = it.sound; keeps = same clean v it.keeps; left = λ trees may. it.left trees (left clean it.keeps trees may) })

-- one that commits nothing
pub quietly_kept : (old new : State) (v : Vault) (refused : List (ℕ × Change)) → (HasCleanDisk new → HasCleanDisk old) → (HasCleanDisk new → (w : Vault) → Keeps old w → Keeps new w)
    → Survives old new (λ _. ⊥) → ∥ (HasCleanDisk old → IsKept old v refused) ∥₁ → ∥ (HasCleanDisk new → IsKept new v refused) ∥₁
quietly_kept old new v refused honest same survives =
    still_kept old new v refused honest same (λ clean keeps trees may. elim (survives.crash clean trees may) [ inl was ↦ was | inr none ↦ absurd none ])

-- a read of a connection that is open
pub read_kept : {S : Type 0} (g : Ghosts S) (old new : Held S) (v : Vault) (refused : List (ℕ × Change)) → OnlyReads g old new → (HasCleanDisk (state g old) → IsTrue (state g old).is_open)
    → ∥ (HasCleanDisk (state g old) → IsKept (state g old) v refused) ∥₁ → ∥ (HasCleanDisk (state g new) → IsKept (state g new) v refused) ∥₁
read_kept g old new v refused read is_open =
    still_kept (state g old) (state g new) v refused read.honest read.same
    (λ clean keeps trees may. elim ((read.crash v keeps).crash clean trees may) [ inl was ↦ was | inr shut ↦ absurd (shut (is_open (read.honest clean))) ])

-- the same vault by another name, after which nothing was refused
pub kept_alone : (s : State) (v w : Vault) (refused : List (ℕ × Change)) → w ≡ v → refused ≡ [] → IsKept s v [] → IsKept s w refused
kept_alone s v w refused same none kept = subst (λ u. IsKept s u refused) (sym same) (subst (IsKept s v) (sym none) kept)

-- an error of a read of a vault that is kept, which wanted memory, is no failure of the device
pub no_failure : {S : Type 0} (g : Ghosts S) (old : Held S) (v : Vault) (refused : List (ℕ × Change)) (e : Error) (f : Fault) → ∥ (HasCleanDisk (state g old) → IsKept (state g old) v refused) ∥₁ → HasCleanDisk (state g old)
    → ((w : Vault) → Keeps (state g old) w → IsMemory e) → f ≡ fault_of e → is_device_fault f ≡ false
no_failure g old v refused e f kept clean memory is =
    ∥∥₁_elim kept (Coded-set coded_bool _ _) (λ kept. ap is_device_fault (is ∙ ap fault_of (memory v (kept clean).keeps)))

-- whatever is found in these trees, they list the schema of the vault's file, and no other
listed_in : (v : Vault) (refused : List (ℕ × Change)) (trees : Trees) → IsOneFoundIn v refused trees → IsDatabase (record { schema = vault_schema v.external; trees = trees })
listed_in v [] trees found = found.listed
listed_in v (c ∷ cs) trees (inl it) = subst (λ external. IsDatabase (record { schema = vault_schema external; trees = trees })) (external_changed v c.0 c.1) it.found.listed
listed_in v (c ∷ cs) trees (inr more) = listed_in v cs trees more

-- while the connection is open, a crash leaves the vault that is kept and nothing else: what was refused isn't there
pub kept_leaves_alone : {S : Type 0} (g : Ghosts S) (h : Held S)
    → ((trees : Trees) → IsTrue (g.view h.store).is_open → g.recovers h.store trees → trees ≡ (g.view h.store).committed)
    → (v : Vault) (refused : List (ℕ × Change)) → IsKept (state g h) v refused → IsTrue (state g h).is_open → LeavesAlone (state g h) v
kept_leaves_alone g h settled v refused kept is_open trees may =
    let db = (state g h).now in
    let keeps = kept.keeps is_open in
    let same : trees ≡ db.trees = settled trees is_open may ∙ ap (λ (d : Database). d.trees) keeps.1 in
    let sound : AreTreesOf v db.trees = subst (λ s. AreSound (record { schema = s; trees = db.trees }) v) keeps.0.spells.schema keeps.0 in
    record { spelled = subst (AreTreesOf v) (sym same) sound; listed = listed_in v refused trees (kept.left trees may) }
