-- From what a copying says of the vaults that old tables spell to the one that is kept.
use Rattle.std.proofs.Common.{◌≡◌, Bool, IsTrue, Result, Ok, Err, sym, subst}
use Rattle.std.specs.Prelude.{IfOk, IfErr}
use Rattle.sqlite_trees.specs.Tree.{Trees}
use Rattle.sqlite.specs.Effect.{Database}
use Rattle.sqlite.specs.State.{State, HasCleanDisk, Survives}
use Rattle.vault_base.specs.declared.refusal.Refusal.{Refusal}
use Rattle.vault_base.specs.declared.refusal.Refusal.TheVariants.{Damaged, Device}
use Rattle.vault_base.specs.declared.refusal.Table.{Table}
use Rattle.vault_core_model.specs.Vault.{Vault}
use Rattle.vault_audit_model.specs.declared.schema.SchemaVersion.{SchemaVersion}
use Rattle.vault_audit_model.specs.Spells.{AreSoundAs}
use Rattle.vault_audit_model.specs.Tables.{schema_of}
use Rattle.vault_store.specs.Copied.{registering}
use Rattle.vault_store.specs.Migrated.{RefusesItsRow}
use Rattle.vaultctl_machine.proofs.FoundLemmas.{was_clean}
use Rattle.vaultctl_machine.specs.Files.{AreSoundEarlier, is_earlier}
use Rattle.vaultctl_machine.specs.Refusals.{RefusesItsRowEarlier}

module _ {V K E : Type 0} (Clean : Type 0) (IsClean : K → Type 0) (Spells : V → Type 0) (kept : K → V) (copy : V → V) where
  -- where some vault is spelled, and the copy of each that is spelled is the one that is kept, that one is the copy of one that is spelled
  pub kept_is_spelled : (r : Result K E) → IfOk r (λ _. Clean → (v : V) × Spells v) → IfOk r (λ k. Clean → IsClean k → (v : V) → Spells v → kept k ≡ copy v)
      → IfOk r (λ k. Clean → IsClean k → (v : V) × Spells v × (kept k ≡ copy v))
  kept_is_spelled (Ok k) some same = λ old new.
      let it = some old in
      (it.0, it.1, same old new it.0 it.1)
  kept_is_spelled (Err e) some same = tt

-- where a copy is refused, the disk of the new store was clean before if it is clean after
pub new_was_clean : {K C : Type 0} (r : Result K (Refusal × C)) (old : State) (new : C → State) (Commits : Trees → Type 0) → IfErr r (λ e. Survives old (new e.1) Commits) → IfErr r (λ e. HasCleanDisk (new e.1) → HasCleanDisk old)
new_was_clean (Ok k) old new Commits is = tt
new_was_clean (Err e) old new Commits is = was_clean old (new e.1) Commits is

-- ---- of which schema version tables are reported to be

module _ (external : Bool) (n : SchemaVersion) (db : Database) where
  -- where tables are sound as those of that schema version, they are as those of an earlier one
  pub kept_is_earlier : {K E : Type 0} (Clean : Type 0) (IsClean : K → Type 0) (kept : K → Vault) (r : Result K E) → IsTrue (is_earlier external n)
      → IfOk r (λ k. Clean → IsClean k → (v : Vault) × AreSoundAs n db v × (kept k ≡ registering external v))
      → IfOk r (λ k. Clean → IsClean k → (v : Vault) × AreSoundEarlier external db v × (kept k ≡ registering external v))
  kept_is_earlier Clean IsClean kept (Ok k) earlier is = λ old new.
      let it = is old new in
      (it.0, (n, earlier, it.1), it.2)
  kept_is_earlier Clean IsClean kept (Err e) earlier is = tt

  -- where a copy of them is refused for one of their rows, they are as those of an earlier one
  pub refused_earlier : {K C : Type 0} (Works : Type 0) (WorksAfter : C → Type 0) (r : Result K (Refusal × C)) → IsTrue (is_earlier external n)
      → IfErr r (λ e. Works → WorksAfter e.1 → e.0 ≡ Device → RefusesItsRow n external db) → IfErr r (λ e. Works → WorksAfter e.1 → e.0 ≡ Device → RefusesItsRowEarlier external db)
  refused_earlier Works WorksAfter (Ok k) earlier is = tt
  refused_earlier Works WorksAfter (Err e) earlier is = λ one two stated.
      let it = is one two stated in
      (it.0, (n, earlier, it.1), it.2)

-- where the schema version is reported by the schema, tables that are sound as those of an earlier one are sound as those of that one
pub sound_as_stated : (external : Bool) (n : SchemaVersion) (db : Database) (v : Vault) → ((m : SchemaVersion) → IsTrue (is_earlier external m) → db.schema ≡ schema_of m → n ≡ m) → AreSoundEarlier external db v → AreSoundAs n db v
sound_as_stated external n db v exact (m, earlier, sound) = subst (λ k. AreSoundAs k db v) (sym (exact m earlier sound.spells.schema)) sound

-- so none of them is reported as damaged
pub never_damaged : {K C : Type 0} (n : SchemaVersion) (db : Database) (Clean : Type 0) (v : Vault) (r : Result K (Refusal × C)) → AreSoundAs n db v
    → IfErr r (λ e. Clean → (t : Table) → e.0 ≡ Damaged t → (w : Vault) → ¬ AreSoundAs n db w) → IfErr r (λ e. Clean → (t : Table) → ¬ (e.0 ≡ Damaged t))
never_damaged n db Clean v (Ok k) sound is = tt
never_damaged n db Clean v (Err e) sound is = λ clean t same. is clean t same v sound
