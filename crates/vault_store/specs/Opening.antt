-- Which vault a connection stood for when it was opened.
use Rattle.std.proofs.Common.{ap, subst, refl, arith}
use Rattle.std.proofs.Math.Logic.{∥∥₁_elim, ∥∥₁_prop}
use Rattle.std.specs.Prelude.{◌≡◌, ℕ, Bool, true, false, List, [], ◌∷◌}
use Rattle.std.specs.Coded.{Coded, code_by, coded×, coded_bool, coded_ℕ, coded_list, Coded-set, →_prop, Unit-prop}
use Rattle.sqlite_trees.specs.declared.store.Store.{Ghosts}
use Rattle.sqlite_trees.specs.View.{doubt}
use Rattle.sqlite.specs.Effect.{Database}
use Rattle.sqlite.specs.Held.{Held, state}
use Rattle.sqlite.specs.State.{HasCleanDisk}
use Rattle.vault_core_model.specs.declared.records.Bucket.{Bucket}
use Rattle.vault_core_model.specs.declared.records.Caller.{Caller}
use Rattle.vault_core_model.specs.declared.records.History.{History}
use Rattle.vault_core_model.specs.declared.records.Note.{Note}
use Rattle.vault_core_model.specs.contracts.records.Bucket as bucket
use Rattle.vault_core_model.specs.contracts.records.Caller as caller
use Rattle.vault_core_model.specs.contracts.records.History as history
use Rattle.vault_core_model.specs.contracts.records.Note as note
use Rattle.vault_core_model.specs.Vault.{Vault, opening}
use Rattle.vault_audit_laws.proofs.Uniqueness.{same_vault}
use Rattle.vault_audit_model.specs.Spells.{AreSound}

-- a vault as a tuple of its parts
abbrev vault_code : Coded Vault
vault_code =
    code_by (Bool × (ℕ × (List (List ℕ) × (List Caller × (List Bucket × (List Note × (List History × ℕ)))))))
    (coded× coded_bool (coded× coded_ℕ (coded× (coded_list (coded_list coded_ℕ)) (coded× (coded_list caller.the_row.coded) (coded× (coded_list bucket.the_row.coded) (coded× (coded_list note.the_row.coded) (coded× (coded_list history.the_row.coded) coded_ℕ)))))))
    (λ v. (v.external, (v.last, (v.departments, (v.callers, (v.buckets, (v.notes, (v.histories, v.moves))))))))
    (λ p. record { external = p.0; last = p.1.0; departments = p.1.1.0; callers = p.1.1.1.0; buckets = p.1.1.1.1.0; notes = p.1.1.1.1.1.0; histories = p.1.1.1.1.1.1.0; moves = p.1.1.1.1.1.1.1 })
    (λ _. refl)

-- a vault that the tables spell, soundly
abbrev Spelled : Database → Type 0
Spelled db = (v : Vault) × ∥ AreSound db v ∥₁

-- two such vaults are one
one_spelled : (db : Database) (v w : Vault) → ∥ AreSound db v ∥₁ → ∥ AreSound db w ∥₁ → v ≡ w
one_spelled db v w p q =
    ∥∥₁_elim p (Coded-set vault_code v w) (λ is. ∥∥₁_elim q (Coded-set vault_code v w) (λ it. same_vault db v w is.spells it.spells))

Spelled-prop : (db : Database) → IsProp (Spelled db)
Spelled-prop db x y =
    subst (λ w. (q : ∥ AreSound db w ∥₁) → ◌≡◌ {A = Spelled db} x (w, q)) (one_spelled db x.0 y.0 x.1 y.1) (λ q. ap (λ h. (x.0, h)) (∥∥₁_prop x.1 q)) y.1

-- the tables are sound
abbrev pub AreSomeVault : Database → Type 0
AreSomeVault db = ∥ ((v : Vault) × AreSound db v) ∥₁

-- the vault that sound tables spell
pub vault_in : (db : Database) → AreSomeVault db → Vault
vault_in db known = (∥∥₁_elim known (Spelled-prop db) (λ it. (it.0, ∣ it.1 ∣₁))).0

-- the vault that tables spell, if the disk returned what was written; else it makes no difference which
abbrev pub vault_by : (clean : Bool) (db : Database) → (doubt clean ≡ 0 → AreSomeVault db) → Vault
unfolding doubt
vault_by true db known = vault_in db (known refl)
vault_by false db known = opening

-- the tables of the connection that is noted are sound, if the disk returned what was written
abbrev pub IsKnown : {S : Type 0} → Ghosts S → List (Held S × Bool) → Type 0
IsKnown g [] = Unit {0}
IsKnown g (it ∷ its) = HasCleanDisk (state g it.0) → AreSomeVault (state g it.0).now

-- that can be shown in one way only
pub IsKnown-prop : {S : Type 0} (g : Ghosts S) (its : List (Held S × Bool)) → IsProp (IsKnown g its)
IsKnown-prop g [] = Unit-prop
IsKnown-prop g (it ∷ its) = →_prop ∥∥₁_prop

-- the vault of the connection that is noted
pub noted_vault : {S : Type 0} (g : Ghosts S) (its : List (Held S × Bool)) → IsKnown g its → Vault
noted_vault g [] known = opening
noted_vault g (it ∷ its) known = vault_by (state g it.0).is_clean (state g it.0).now known

found : (db : Database) (known : AreSomeVault db) (v : Vault) → AreSound db v → vault_in db known ≡ v
unfolding vault_in
found db known v is = one_spelled db (vault_in db known) v (∥∥₁_elim known (Spelled-prop db) (λ it. (it.0, ∣ it.1 ∣₁))).1 ∣ is ∣₁

found_by : (clean : Bool) (db : Database) (known : doubt clean ≡ 0 → AreSomeVault db) → doubt clean ≡ 0 → (v : Vault) → AreSound db v → vault_by clean db known ≡ v
unfolding doubt
found_by true db known sure v is = found db (known refl) v is
found_by false db known sure v is = absurd (omega (arith, sure))

-- which is the vault that its tables spell
pub noted_is : {S : Type 0} (g : Ghosts S) (it : Held S × Bool) (its : List (Held S × Bool)) (known : IsKnown g (it ∷ its)) → HasCleanDisk (state g it.0)
    → (v : Vault) → AreSound (state g it.0).now v → noted_vault g (it ∷ its) known ≡ v
unfolding noted_vault
noted_is g it its known clean v is = found_by (state g it.0).is_clean (state g it.0).now known clean v is
