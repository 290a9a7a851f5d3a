-- A copy that is taken, looked at, and committed.
use Rattle.std.proofs.Common.{◌≡◌, ◌≢◌, ◌↔◌, Bool, inl, inr, IsTrue, sym, ap, ◌∙◌, arith}
use Rattle.sqlite_trees.specs.Tree.{Trees}
use Rattle.sqlite.specs.Effect.{Database, IsDatabase}
use Rattle.sqlite.specs.State.{State, HasCleanDisk, IsUnchanged, Survives}
use Rattle.sqlite.proofs.StateLemmas.{survives_then, survives_weaker}
use Rattle.vault_base.specs.declared.refusal.Refusal.{Refusal}
use Rattle.vault_base.specs.declared.refusal.Refusal.TheVariants.{Memory, Device, Damaged}
use Rattle.vault_base.specs.declared.refusal.Table.{Table}
use Rattle.vault_core_model.specs.Vault.{Vault}
use Rattle.vault_audit.specs.Health.{IsHealthy}
use Rattle.vault_audit.specs.Whole.{IsReported}
use Rattle.vault_audit_model.specs.declared.schema.SchemaVersion.{SchemaVersion}
use Rattle.vault_audit_model.specs.Spells.{AreSound, AreSoundAs}
use Rattle.vault_store_apply.proofs.ApplyLemmas.{found_again}
use Rattle.vault_store_create.specs.Copied.{registering}
use Rattle.vault_store.specs.Migrated.{IsMigrated}
use Rattle.vault_store.specs.Tables.{HasTablesOf}

pub tables_from : (a b c : State) → IsUnchanged a b → HasTablesOf b c → HasTablesOf a c
tables_from a b c same later was_open is_open =
    let it = later same.0.is_open is_open in
    (it.0 ∙ same.0.now_is, it.1 ∙ same.0.committed_is)

-- what stands in the copied tables is the copy of the vault
pub migrated : (n : SchemaVersion) (external : Bool) (from db : Database) (trees : Trees) → (v : Vault) × AreSoundAs n from v → ((v : Vault) → AreSoundAs n from v → AreSound db (registering external v) × IsDatabase db) → trees ≡ db.trees
    → IsMigrated n external from trees
migrated n external from db trees (v, is) copied same =
    let it = copied v is in
    (v, is, found_again db (registering external v) trees it.0.spells.schema it.0 it.1 same)

pub survives_more : (a b c : State) → Survives a b (λ _. ⊥) → Survives b c (λ _. ⊥) → Survives a c (λ _. ⊥)
survives_more a b c one two = survives_then a b c (λ _. ⊥) (λ _. ⊥) (λ _. ⊥) (λ _ trees none. none) (λ _ trees none. none) one two

pub never_copied : (a b : State) (P : Trees → Type 0) → Survives a b (λ _. ⊥) → Survives a b P
never_copied a b P it = survives_weaker a b (λ _. ⊥) P (λ clean trees none. absurd none) it

-- what a crash leaves of a copy that is taken, looked at, and committed
pub copy_survives : (start taken looked end : State) (n : SchemaVersion) (external : Bool) (from : Database) (Clean : Type 0) → Survives start taken (λ _. ⊥) → Survives taken looked (λ _. ⊥) → Survives looked end (λ trees. trees ≡ looked.now.trees)
    → (HasCleanDisk looked → looked.now ≡ taken.now) → (Clean → (v : Vault) × AreSoundAs n from v) → (Clean → HasCleanDisk taken → (v : Vault) → AreSoundAs n from v → AreSound taken.now (registering external v) × IsDatabase taken.now)
    → Survives start end (λ trees. Clean → IsMigrated n external from trees)
copy_survives start taken looked end n external from Clean one two three same spelled copied =
    survives_then start looked end (λ _. ⊥) (λ trees. trees ≡ looked.now.trees) (λ trees. Clean → IsMigrated n external from trees) (λ _ trees none. absurd none)
    (λ clean trees is read.
    let here : HasCleanDisk looked = omega (arith, clean, three.clean) in
    let there : HasCleanDisk taken = omega (arith, here, two.clean) in
    migrated n external from taken.now trees (spelled read) (copied read there) (is ∙ ap (λ (d : Database). d.trees) (same here)))
    (survives_more start taken looked one two) three

-- a store that works after calls that commit nothing worked before them
pub worked : (old new : State) → Survives old new (λ _. ⊥) → (HasCleanDisk new → IsTrue new.is_open → IsTrue old.is_open) → IsHealthy new → IsHealthy old
worked old new kept was_open well = record {
  clean = omega (arith, well.clean, kept.clean);
  unfailed = omega (arith, well.unfailed, kept.counts);
  is_open = was_open well.clean well.is_open;
  unlimited = sym kept.limit ∙ well.unlimited;
}

-- a look at tables that are sound, over a store that works, is never reported as a failure
pub never_failed : (r stated : Refusal) → IsReported r → (stated ≡ Memory) ↔ (r ≡ Memory) → r ≢ Device → ((t : Table) → r ≢ Damaged t) → stated ≢ Device
never_failed r stated (inl memory) both working whole is = absurd (let no : Memory ≡ Device = sym (both.1 memory) ∙ is in cc no)
never_failed r stated (inr (inl device)) both working whole is = working device
never_failed r stated (inr (inr (t, damaged))) both working whole is = whole t damaged
