-- From what an opening finds in the files to the vault that their tables spell.
use Rattle.std.proofs.Common.{◌≡◌, ℕ, Bool, [], ◌∷◌, map, get_or, IsPermutation, arith, refl, sym, ap, subst, ◌∙◌}
use Rattle.std.proofs.lemmas.List.Sorted.{IsPermutation-map}
use Rattle.sqlite.specs.Start.{FindsIn}
use Rattle.sqlite.specs.State.{State, HasCleanDisk, Opens, IsUnchanged, Survives}
use Rattle.sqlite.proofs.Callers.{one_permutation}
use Rattle.sqlite_trees.proofs.ListLemmas.{map-map}
use Rattle.sqlite_trees.specs.Tree.{Trees}
use Rattle.sqlite_value.specs.Order.{column}
use Rattle.sqlite_wal.specs.Recovery.{Image}
use Rattle.vault_core_model.specs.Vault.{Vault}
use Rattle.vault_audit_laws.proofs.Uniqueness.{same_vault_as}
use Rattle.vault_audit_model.specs.declared.schema.SchemaVersion.{SchemaVersion}
use Rattle.vault_audit_model.specs.declared.schema.SchemaVersion.TheVariants.{First, Second, Third, Fourth}
use Rattle.vault_audit_model.specs.SchemaVersions.{number_of}
use Rattle.vault_audit_model.specs.Rows.{meta_columns_as}
use Rattle.vault_audit_model.specs.Spells.{AreSoundAs}
use Rattle.vault_audit_model.specs.Tables.{meta_tree}
use Rattle.vault_audit_model.specs.Values.{number}
use Rattle.vault_store.specs.Copied.{registering}
use Rattle.vaultctl_machine.specs.Files.{AreSoundEarlier, AreTreesAs, IsCopiedFrom, IsFoundAs, IsFoundEarlier, IsHeldAs}

-- a disk that is clean was clean before
pub was_clean : (old new : State) (Commits : Trees → Type 0) → Survives old new Commits → HasCleanDisk new → HasCleanDisk old
was_clean old new Commits is clean = omega (arith, is.clean, clean)

-- tables that were only read were sound before
pub was_sound : (n : SchemaVersion) (old new : State) (v : Vault) → IsUnchanged old new → AreSoundAs n new.now v → AreSoundAs n old.now v
was_sound n old new v same sound = subst (λ db. AreSoundAs n db v) same.0.now_is sound

-- ---- tables are of one schema version, by its number

abbrev schema_version_at : ℕ → SchemaVersion
schema_version_at n = get_or (First ∷ First ∷ Second ∷ Third ∷ Fourth ∷ []) n Fourth

numbered_back : (n : SchemaVersion) → schema_version_at (number_of n) ≡ n
numbered_back First = refl
numbered_back Second = refl
numbered_back Third = refl
numbered_back Fourth = refl

number_stated : (n : SchemaVersion) (trees : Trees) (v : Vault) → AreTreesAs n v trees → map (λ r. column r 2) (trees meta_tree) ≡ number (number_of n) ∷ []
number_stated n trees v is =
    one_permutation (number (number_of n)) _
    (subst (IsPermutation (number (number_of n) ∷ [])) (map-map (λ row. column row 1) (meta_columns_as n) (trees meta_tree)) (IsPermutation-map (λ row. column row 1) _ _ is.spells.meta))

one_schema_version : (n m : SchemaVersion) (trees : Trees) (v w : Vault) → AreTreesAs n v trees → AreTreesAs m w trees → n ≡ m
one_schema_version n m trees v w first second =
    let stated = sym (number_stated n trees v first) ∙ number_stated m trees w second in
    let same : number_of n ≡ number_of m = cc stated in
    sym (numbered_back n) ∙ ap schema_version_at same ∙ numbered_back m

module _ (n : SchemaVersion) (image : Image) (s : State) (v : Vault) (opens : Opens s) (found : FindsIn image s) (sound : AreSoundAs n s.now v) where
  -- the tables that were found are those that were looked at
  spelled : AreTreesAs n v s.committed.trees
  spelled =
      let is = subst (λ db. AreSoundAs n db v) opens.clean sound in
      subst (λ schema. AreSoundAs n (record { schema = schema; trees = s.committed.trees }) v) is.spells.schema is

  pub found_in_files : IsFoundAs n image v
  found_in_files = (s.committed.trees, found.reads, spelled)

  pub held_in_files : (m : SchemaVersion) (w : Vault) → IsHeldAs m image w → v ≡ w
  held_in_files m w held =
      let trees = s.committed.trees in
      let is : AreTreesAs m w trees = subst (AreTreesAs m w) (sym (found.holds held.0 held.1)) held.2 in
      let same = one_schema_version n m trees v w spelled is in
      let there : AreTreesAs n w trees = subst (λ k. AreTreesAs k w trees) (sym same) is in
      same_vault_as n _ v w spelled.spells there.spells

-- ---- the same of tables of one of the earlier schema versions

module _ (external : Bool) (image : Image) (s : State) (opens : Opens s) (found : FindsIn image s) where
  pub found_of_earlier : (v : Vault) → AreSoundEarlier external s.now v → IsFoundEarlier external image v
  found_of_earlier v (n, earlier, sound) = (n, earlier, found_in_files n image s v opens found sound)

  module _ (kept : Vault) (it : (v : Vault) × AreSoundEarlier external s.now v × (kept ≡ registering external v)) where
    pub copied_of_earlier : IsCopiedFrom external image kept
    copied_of_earlier = (it.0, found_of_earlier it.0 it.1, it.2)

    pub held_of_earlier : (m : SchemaVersion) (w : Vault) → IsHeldAs m image w → kept ≡ registering external w
    held_of_earlier m w held =
        let sound = it.1 in
        it.2 ∙ ap (registering external) (held_in_files sound.0 image s it.0 opens found sound.2 m w held)
