-- What a keeper knows of its vault, after each call.
use Rattle.std.proofs.Common.{◌≡◌, ℕ, List, Option, Some, None, IfSome, IsTrue, refl, sym, ap, subst, ◌∙◌}
use Rattle.std.proofs.Math.Logic.{∥∥₁_elim, ∥∥₁_map, ∥∥₁_prop}
use Rattle.std.specs.Coded.{Coded-set, coded_option, coded_ℕ, ×_prop, Unit-prop}
use Rattle.sqlite_trees.specs.declared.store.Store.{Ghosts}
use Rattle.sqlite.specs.Held.{Held, state}
use Rattle.sqlite.specs.State.{HasCleanDisk}
use Rattle.vault_core_laws.proofs.SoundProp.{IsRowOf-prop}
use Rattle.vault_core_model.specs.contracts.records.BucketConfig as config
use Rattle.vault_core_model.specs.declared.change.Change.{Change}
use Rattle.vault_core_model.specs.Totals.{IsRowFor, bucket_bytes, bucket_weight}
use Rattle.vault_core_model.specs.Vault.{Vault, config_of}
use Rattle.vault_audit_laws.proofs.Uniqueness.{same_vault}
use Rattle.vault_audit_model.specs.contracts.rows.MetaRow as meta
use Rattle.vault_audit_model.specs.Spells.{meta_of}
use Rattle.vault_store_model.specs.Keeping.{Keeps}
use Rattle.vault_store_model.specs.declared.known.Known.{Known}
use Rattle.vault_store_model.specs.Known.{AreKnown}
use Rattle.vault_store.specs.Knows.{StaysKnown}
use Rattle.vault_store.specs.Left.{IsKept}

if_some_prop : {X : Type 0} (P : X → Type 0) → ((x : X) → IsProp (P x)) → (o : Option X) → IsProp (IfSome o P)
if_some_prop P each None = Unit-prop
if_some_prop P each (Some x) = each x

-- the same in pairs
abbrev KnownParts : Known → Vault → Type 0
KnownParts k v =
    IfSome k.meta (λ m. m ≡ meta_of v)
    × (IfSome k.bucket (λ b. config_of v b.name ≡ Some b.config)
    × (IfSome k.sums (λ d. IsRowFor v d.name d.sums)
    × IfSome k.load (λ l. (l.bytes ≡ bucket_bytes v l.name) × (l.weight ≡ bucket_weight v l.name))))

known_parts : (k : Known) (v : Vault) → AreKnown k v → KnownParts k v
known_parts k v x = (x.0, (x.1, (x.2, x.3)))

known_by : (k : Known) (v : Vault) → KnownParts k v → AreKnown k v
known_by k v p = (p.0, p.1.0, p.1.1.0, p.1.1.1)

known_back : (k : Known) (v : Vault) (x : AreKnown k v) → known_by k v (known_parts k v x) ≡ x
unfolding known_by known_parts
known_back k v x = refl

-- what is known of a vault is so in one way only
pub AreKnown-prop : (k : Known) (v : Vault) → IsProp (AreKnown k v)
AreKnown-prop k v x y =
    let parts : IsProp (KnownParts k v) =
    ×_prop (if_some_prop (λ m. m ≡ meta_of v) (λ m. Coded-set meta.the_row.coded m (meta_of v)) k.meta)
    (×_prop (if_some_prop (λ b. config_of v b.name ≡ Some b.config) (λ b. Coded-set (coded_option config.the_row.coded) (config_of v b.name) (Some b.config)) k.bucket)
    (×_prop (if_some_prop (λ d. IsRowFor v d.name d.sums) (λ d. IsRowOf-prop _ _) k.sums)
    (if_some_prop (λ l. (l.bytes ≡ bucket_bytes v l.name) × (l.weight ≡ bucket_weight v l.name)) (λ l. ×_prop (Coded-set coded_ℕ _ _) (Coded-set coded_ℕ _ _)) k.load))) in
    sym (known_back k v x) ∙ ap (known_by k v) (parts (known_parts k v x) (known_parts k v y)) ∙ known_back k v y

-- a call that asks for other things
pub known_still : {A B K : Type 0} → (B → A) → ∥ (A → K) ∥₁ → ∥ (B → K) ∥₁
known_still honest knows = ∥∥₁_map knows (λ knows clean. knows (honest clean))

-- one that asks for what isn't known
pub known_then : {S : Type 0} (g : Ghosts S) (old new : Held S) (v : Vault) (refused : List (ℕ × Change)) (before after : Known) → (HasCleanDisk (state g new) → HasCleanDisk (state g old)) → StaysKnown g old new before after
    → ∥ (HasCleanDisk (state g old) → IsKept (state g old) v refused) ∥₁ → ∥ (HasCleanDisk (state g old) → AreKnown before v) ∥₁ → ∥ (HasCleanDisk (state g new) → AreKnown after v) ∥₁
known_then g old new v refused before after honest stays kept knows =
    ∥∥₁_elim kept ∥∥₁_prop (λ kept. ∥∥₁_map knows (λ knows clean. stays clean v (kept (honest clean)).keeps (knows (honest clean))))

-- it is known of each vault that an open connection keeps
pub known_of_each : {S : Type 0} (g : Ghosts S) (h : Held S) (v w : Vault) (refused : List (ℕ × Change)) (k : Known) → HasCleanDisk (state g h) → IsTrue (state g h).is_open
    → ∥ (HasCleanDisk (state g h) → IsKept (state g h) v refused) ∥₁ → ∥ (HasCleanDisk (state g h) → AreKnown k v) ∥₁ → Keeps (state g h) w → AreKnown k w
known_of_each g h v w refused k clean is_open kept knows keeps =
    ∥∥₁_elim kept (AreKnown-prop k w) (λ kept. ∥∥₁_elim knows (AreKnown-prop k w)
    (λ knows. subst (AreKnown k) (same_vault (state g h).now v w ((kept clean).keeps is_open).0.spells (keeps is_open).0.spells) (knows clean)))
