-- Why no vault was given out: from the store that refused it to the files.
use Rattle.std.proofs.Common.{◌≡◌, ◌≢◌, ◌⊎◌, inl, inr, List, [], ◌∷◌, ◌++◌, Bool, true, false, sym, subst, ◌∙◌}
use Rattle.sqlite_catalog.proofs.ReadLemmas.{lists_once}
use Rattle.sqlite_trees.specs.Objects.{catalog_tree}
use Rattle.sqlite_trees.specs.Tree.{Trees}
use Rattle.sqlite_wal.specs.Recovery.{Image}
use Rattle.sqlite.specs.Effect.{Database, IsDatabase}
use Rattle.sqlite.specs.Start.{FindsIn}
use Rattle.sqlite.specs.State.{State, HasCleanDisk, IsLive, Opens, Survives}
use Rattle.vault_audit.specs.Health.{IsHealthy}
use Rattle.vault_audit_model.specs.declared.schema.SchemaVersion.{SchemaVersion}
use Rattle.vault_audit_model.specs.SchemaVersions.{edition_of}
use Rattle.vault_audit_model.specs.Spells.{AreSound, AreSoundAs}
use Rattle.vault_audit_model.specs.Tables.{no_schema, schema_of}
use Rattle.vault_base.specs.declared.refusal.Refusal.{Refusal}
use Rattle.vault_base.specs.declared.refusal.Refusal.TheVariants.{Damaged, Device, Memory, NameTaken}
use Rattle.vault_base.specs.declared.refusal.Table.{Table}
use Rattle.vault_core_model.specs.Vault.{Vault}
use Rattle.vault_store.specs.Tables.{HasTablesOf}
use Rattle.vaultctl_machine.proofs.FoundLemmas.{found_of_earlier, was_clean}
use Rattle.vaultctl_machine.specs.Closings.{Closes}
use Rattle.vaultctl_machine.specs.Faults.{ReportsFailure, refusal_of}
use Rattle.vaultctl_machine.specs.Files.{AreSoundEarlier, AreTreesAs, IsWholeAs, IsWholeEarlier}
use Rattle.vaultctl_machine.specs.Refusals.{FailsForItsRow, IsRefusedOver, IsUncopiedFrom, IsUnmade, IsUnmadeOver, LetsBothGo, RefusesItsRowEarlier, Reports}
use Rattle.vaultctl_machine.specs.declared.open_error.OpenError.{OpenError}

-- ---- what is reported

module _ (P : Refusal → Type 0) (x : OpenError) where
  pub reports_as : (r : Refusal) → refusal_of x ≡ r → ReportsFailure x → P r → Reports P x
  reports_as r is failure holds = record { stated = subst P (sym is) holds; failure = failure }

  -- one of two
  pub reports_either : (a r : Refusal) → (refusal_of x ≡ a) ⊎ (refusal_of x ≡ r) → ReportsFailure x → P a → P r → Reports P x
  reports_either a r (inl is) failure at_a at_r = reports_as a is failure at_a
  reports_either a r (inr is) failure at_a at_r = reports_as r is failure at_r

  -- as another cause, of which more is seen
  pub reports_after : (e : OpenError) → refusal_of x ≡ refusal_of e → (ReportsFailure e → ReportsFailure x) → Reports P e → Reports P x
  reports_after e same failure reports = reports_as (refusal_of e) same (failure reports.failure) reports.stated

-- of more refusals
pub reports_weaker : (P Q : Refusal → Type 0) (x : OpenError) → ((r : Refusal) → P r → Q r) → Reports P x → Reports Q x
reports_weaker P Q x weaker reports = record { stated = weaker (refusal_of x) reports.stated; failure = reports.failure }

-- one connection more, of which it holds, where what is reported is that
pub closes_as : {C : Type 0} (old new : List (C × Bool)) (conn : C) (P : C → Refusal → Type 0) (x r : Refusal) → x ≡ r → new ≡ old ++ (conn, true) ∷ [] → P conn r → Closes old new (λ c. P c x)
closes_as old new conn P x r is closed holds = (conn, closed, subst (P conn) (sym is) holds)

-- the same of the two connections of a copy
pub both_close_as : {C D : Type 0} (old new : List (C × Bool)) (none uncopied : List (D × Bool)) (source : C) (target : D) (P : C → D → Refusal → Type 0) (x r : Refusal) → x ≡ r
    → new ≡ old ++ (source, true) ∷ [] → uncopied ≡ none ++ (target, true) ∷ [] → P source target r → LetsBothGo old new none uncopied (λ c d. P c d x)
both_close_as old new none uncopied source target P x r is closed closed_new holds = inr (source, closed, (target, closed_new, subst (P source target) (sym is) holds))

-- ---- tables that are looked at are those of the files

module _ (image : Image) (s : State) (opens : Opens s) (live : IsLive s) (finds : FindsIn image s) where
  -- the database of files has one schema, which it lists
  pub whole_is_sound : (n : SchemaVersion) (v : Vault) → IsWholeAs n image v → AreSoundAs n s.now v
  whole_is_sound n v whole =
      let trees = s.committed.trees in
      let it : AreTreesAs n v trees × IsDatabase (record { schema = schema_of n; trees = trees }) =
      subst (λ t. AreTreesAs n v t × IsDatabase (record { schema = schema_of n; trees = t })) (sym (finds.holds whole.0 whole.1)) (whole.2, whole.3) in
      let schema = lists_once (trees catalog_tree) s.committed.schema (schema_of n) (live opens.is_open).1.lists it.1.lists in
      subst (λ (db : Database). AreSoundAs n db v) (sym opens.clean) (subst (λ t. AreSoundAs n (record { schema = t; trees = trees }) v) (sym schema) it.0)

module _ (image : Image) (old new : State) (r : Refusal) (opened : HasCleanDisk old → Opens old × IsLive old) (finds : HasCleanDisk old → FindsIn image old) where
  pub refused_over : Survives old new (λ _. ⊥) → (old.in_transaction ≡ false → IsHealthy new → r ≢ Device) → (HasCleanDisk new → (t : Table) → r ≡ Damaged t → (v : Vault) → ¬ AreSound old.now v) → IsRefusedOver image new r
  refused_over survives healthy damaged = record {
    healthy = λ works. healthy (opened (was_clean old new _ survives works.clean)).0.autocommit works;
    damaged = λ clean t is v whole.
        let before = was_clean old new _ survives clean in
        let it = opened before in
        damaged clean t is v (whole_is_sound image old it.0 it.1 (finds before) (edition_of v.external) v whole);
  }

  -- the same of tables of an earlier schema version
  earlier_is_sound : (external : Bool) → HasCleanDisk old → (v : Vault) → IsWholeEarlier external image v → AreSoundEarlier external old.now v
  earlier_is_sound external clean v (n, earlier, whole) = (n, earlier, whole_is_sound image old (opened clean).0 (opened clean).1 (finds clean) n v whole)

  pub uncopied_from : (external : Bool) → (HasCleanDisk new → HasCleanDisk old) → ((v : Vault) → AreSoundEarlier external old.now v → HasCleanDisk new → (t : Table) → r ≢ Damaged t) → IsUncopiedFrom external image new r
  uncopied_from external clean undamaged = record {
    damaged = λ is_clean t is v whole. undamaged v (earlier_is_sound external (clean is_clean) v whole) is_clean t is;
  }

-- of the two connections of a copy, as they were opened and as they were let go of
pub fails_for_its_row : (external : Bool) (image : Image) (old source new target : State) (r : Refusal) → (HasCleanDisk old → Opens old × IsLive old) → (HasCleanDisk old → FindsIn image old) → (HasCleanDisk new → Opens new × IsLive new)
    → (HasCleanDisk source → HasCleanDisk old) → (HasCleanDisk target → HasCleanDisk new)
    → (old.in_transaction ≡ false → new.in_transaction ≡ false → IsHealthy source → IsHealthy target → r ≡ Device → RefusesItsRowEarlier external old.now) → FailsForItsRow external image source target r
fails_for_its_row external image old source new target r opened finds opened_new clean clean_new refused = λ works works_new is.
    let before = clean works.clean in
    let opens = (opened before).0 in
    let it = refused opens.autocommit (opened_new (clean_new works_new.clean)).0.autocommit works works_new is in
    (it.0, found_of_earlier external image old opens (finds before) it.0 it.1, it.2)

-- what isn't made is never reported as damaged
undamaged : (r : Refusal) → IsUnmade r → (t : Table) → ¬ (r ≡ Damaged t)
undamaged r unmade t is =
    let taken : ¬ (r ≡ NameTaken) = λ it. let never : NameTaken ≡ Damaged t = sym it ∙ is in cc never in
    elim (unmade taken) [
      | inl it ↦ let never : Memory ≡ Damaged t = sym it ∙ is in cc never
      | inr it ↦ let never : Device ≡ Damaged t = sym it ∙ is in cc never
    ]

pub uncopied_unmade : (external : Bool) (image : Image) (s : State) (r : Refusal) → IsUnmade r → IsUncopiedFrom external image s r
uncopied_unmade external image s r unmade = record { damaged = λ clean t is v whole. undamaged r unmade t is }

-- a store that works isn't refused as a failed device, and one that is refused as taken has something in it still
pub unmade_over : (old new : State) (r : Refusal) (Commits : Trees → Type 0) → (HasCleanDisk old → Opens old × IsLive old) → Survives old new Commits → (old.in_transaction ≡ false → IsHealthy new → r ≢ Device)
    → (r ≡ NameTaken → old.now.schema ≢ no_schema) → (old.in_transaction ≡ false → HasCleanDisk new → HasTablesOf old new) → IsUnmadeOver new r
unmade_over old new r Commits opened survives healthy taken tables = record {
  healthy = λ works. healthy (opened (was_clean old new Commits survives works.clean)).0.autocommit works;
  taken = λ clean is_open is none.
      let it = (opened (was_clean old new Commits survives clean)).0 in
      let same = (tables it.autocommit clean it.is_open is_open).0 in
      taken is (subst (λ (db : Database). db.schema ≡ no_schema) same none);
}
