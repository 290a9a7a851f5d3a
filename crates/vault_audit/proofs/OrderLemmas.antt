-- The tables in their order, and those that are right by themselves.
use Rattle.std.proofs.Common.{◌≡◌, ◌≢◌, ◌↔◌, ℕ, zero, suc, ◌+◌, ◌<◌, ◌≤◌, List, [], ◌∷◌, get_or, map, take, Bool, Option, None, Some, IfSome, Result, Ok, Err, IfOk, OnOk, IsTrue, true, false, true≢false, refl, sym, ap, subst, ◌∙◌, inl, inr, arith}
use Rattle.std.proofs.lemmas.Bool.{cases_order}
use Rattle.std.proofs.lemmas.List.Sorted.{IsPermutation-sym, IsPermutation-trans}
use Rattle.sqlite.specs.Effect.{Database}
use Rattle.sqlite.specs.declared.error.Error.{Error}
use Rattle.sqlite.specs.Schema.{Schema}
use Rattle.sqlite.specs.State.{State, Survives, IsUnchanged}
use Rattle.sqlite.proofs.Callers.{one_permutation}
use Rattle.sqlite.proofs.StateLemmas.{survives_then}
use Rattle.vault_base.specs.declared.refusal.Table.{Table}
use Rattle.vault_base.specs.declared.refusal.Table.TheVariants.{Meta, Departments, Callers, Buckets, Rules, Entries, Contents, Settings, Intake, Heads, Tenures, External}
use Rattle.vault_core_model.specs.Vault.{Vault}
use Rattle.vault_audit_model.specs.declared.schema.SchemaVersion.{SchemaVersion}
use Rattle.vault_audit_model.specs.declared.rows.MetaRow.{MetaRow}
use Rattle.vault_audit_model.specs.Order.{place_of}
use Rattle.vault_audit_model.specs.Rows.{meta_row, entry_row, entry_columns}
use Rattle.vault_audit_model.specs.Spells.{AreSoundAs, meta_stated}
use Rattle.vault_audit_model.specs.Tables.{schema_of, entries_tree}
use Rattle.vault_audit_model.proofs.PlaceLemmas.{one_table}
use Rattle.vault_audit_model.proofs.SameRows.{same_meta}
use Rattle.vault_audit_schema.specs.Places.{BeginTo, IsReportedIn}
use Rattle.vault_audit_schema.proofs.DifferenceLemmas.{in_place, place_below}
use Rattle.vault_audit_records.specs.Entries.{IsEntryBy}
use Rattle.vault_audit_records.specs.Meta.{IsMetaOf}
use Rattle.vault_audit_rows.specs.Records.{AreRecords}
use Rattle.vault_audit.specs.InOrder.{AreRowsRight, IsRight, IsReportedInOrder, ReportedInOrder}
use Rattle.vault_audit.specs.Looks.{Differs}
use Rattle.vault_audit_model.specs.SchemaVersions.{is_external}

-- ---- places

-- the tables after meta
abbrev pub after_meta : List Table
after_meta = Departments ∷ Callers ∷ Buckets ∷ Rules ∷ Entries ∷ Contents ∷ Settings ∷ Intake ∷ Heads ∷ Tenures ∷ External ∷ []

pub place_after : (i : ℕ) → i < 11 → place_of (get_or after_meta i Meta) ≡ i + 1
place_after zero h = refl
place_after (suc zero) h = refl
place_after (suc (suc zero)) h = refl
place_after (suc (suc (suc zero))) h = refl
place_after (suc (suc (suc (suc zero)))) h = refl
place_after (suc (suc (suc (suc (suc zero))))) h = refl
place_after (suc (suc (suc (suc (suc (suc zero)))))) h = refl
place_after (suc (suc (suc (suc (suc (suc (suc zero))))))) h = refl
place_after (suc (suc (suc (suc (suc (suc (suc (suc zero)))))))) h = refl
place_after (suc (suc (suc (suc (suc (suc (suc (suc (suc zero))))))))) h = refl
place_after (suc (suc (suc (suc (suc (suc (suc (suc (suc (suc zero)))))))))) h = refl
place_after (suc (suc (suc (suc (suc (suc (suc (suc (suc (suc (suc n))))))))))) h = absurd (omega (arith, h))

-- what a test says
pub is_not : {P : Type 0} (b : Bool) → b ≡ false → (IsTrue b ↔ P) → ¬ P
is_not b e h p = true≢false (sym (h.1 p) ∙ e)

-- ---- the table at which the schema differs, if any

-- it isn't before this place
abbrev pub IsFrom : ℕ → Option Table → Type 0
IsFrom place difference = IfSome difference (λ (d : Table). place ≤ place_of d)

pub from_after : (difference : Option Table) → difference ≢ Some Meta → IsFrom 1 difference
from_after None other = tt
from_after (Some Meta) other = absurd (other refl)
from_after (Some Departments) other = omega arith
from_after (Some Callers) other = omega arith
from_after (Some Buckets) other = omega arith
from_after (Some Rules) other = omega arith
from_after (Some Entries) other = omega arith
from_after (Some Contents) other = omega arith
from_after (Some Settings) other = omega arith
from_after (Some Intake) other = omega arith
from_after (Some Heads) other = omega arith
from_after (Some Tenures) other = omega arith
from_after (Some External) other = omega arith

pub from_next : (difference : Option Table) (t : Table) (place : ℕ) → place_of t ≡ place → IsFrom place difference → difference ≢ Some t → IsFrom (place + 1) difference
from_next None t place here from other = tt
from_next (Some d) t place here from other = elim (cases_order (place_of d) place) [
  | inl e ↦ absurd (other (ap (λ (u : Table). Some u) (one_table d t (e ∙ sym here))))
  | inr (inl less) ↦ absurd (omega (arith, less, from))
  | inr (inr more) ↦ omega (arith, more)
]

module _ (n : SchemaVersion) (s : Schema) where
  pub begin_at : (difference : Option Table) (t : Table) (place : ℕ) → place_of t ≡ place → Differs n s difference → IsFrom (place + 1) difference → BeginTo n s.tables t
  begin_at None t place here is from = ap (λ (x : Schema). take (place_of t + 1) x.tables) is
  begin_at (Some d) t place here it from = it.begin t (omega (arith, here, from))

  pub no_difference : (difference : Option Table) → Differs n s difference → IsFrom 12 difference → s ≡ schema_of n
  no_difference None is from = is
  no_difference (Some d) it from = let below = place_below d in absurd (omega (arith, below, from))

  pub differs_as : (difference : Option Table) → ((difference ≡ None) ↔ (s ≡ schema_of n)) → IfSome difference (IsReportedIn n s) → Differs n s difference
  differs_as None found stated = found.0 refl
  differs_as (Some d) found stated = stated

  -- it isn't at meta
  pub begin_meta : (difference : Option Table) → Differs n s difference → difference ≢ Some Meta → BeginTo n s.tables Meta
  begin_meta difference it other = begin_at difference Meta 0 refl it (from_after difference other)

  -- it is at this table
  pub at_table : (difference : Option Table) (t : Table) → difference ≡ Some t → Differs n s difference → IsReportedIn n s t
  at_table difference t e it = subst (Differs n s) e it

-- ---- tables that are right

module _ (n : SchemaVersion) (db : Database) where
  -- those before this place are
  abbrev pub AreRightTo : ℕ → Type 0
  AreRightTo place = (t : Table) → place_of t < place → IsRight n db t

  pub right_more : (t : Table) (place : ℕ) → place_of t ≡ place → AreRightTo place → IsRight n db t → AreRightTo (place + 1)
  right_more t place here before it u less = elim (cases_order (place_of u) place) [
    | inl e ↦ subst (IsRight n db) (one_table t u (here ∙ sym e)) it
    | inr (inl lower) ↦ before u lower
    | inr (inr more) ↦ absurd (omega (arith, less, more))
  ]

  pub meta_right : (m : MetaRow) → BeginTo n db.schema.tables Meta → IsMetaOf n db (Some m) → AreRightTo 1
  meta_right m begin is = right_more Meta 0 refl (λ t less. absurd (omega (arith, less))) (in_place n db.schema.tables Meta begin, (m, is))

  pub right_row : (t : Table) → BeginTo n db.schema.tables t → AreRowsRight n db t true → IsRight n db t
  right_row t begin right = (in_place n db.schema.tables t begin, right)

  pub all_right : AreRightTo 12 → db.schema ≡ schema_of n → ReportedInOrder n db None
  all_right right is = (is, λ t. right t (place_below t))

  pub stated_by_form : (t : Table) → ((u : Table) → place_of u < place_of t → IsRight n db u) → IsReportedIn n db.schema t → ReportedInOrder n db (Some t)
  stated_by_form t before it = (
    record { before = before; here = elim it.here [ inl out ↦ inl out | inr are ↦ inr (inr (are, λ e. absurd (it.differs e))) ] },
    λ v sound. it.differs sound.spells.schema,
  )

  pub stated_by_rows : (t : Table) → ((u : Table) → place_of u < place_of t → IsRight n db u) → AreRowsRight n db t false → ((v : Vault) → ¬ AreSoundAs n db v) → ReportedInOrder n db (Some t)
  stated_by_rows t before wrong none = (record { before = before; here = inr (inl wrong) }, none)

  -- meta is reported
  pub meta_by_form : IsReportedIn n db.schema Meta → ReportedInOrder n db (Some Meta)
  meta_by_form it = stated_by_form Meta (λ u less. absurd (omega (arith, less))) it

  pub meta_by_rows : IsMetaOf n db None → ((v : Vault) → ¬ AreSoundAs n db v) → ReportedInOrder n db (Some Meta)
  meta_by_rows wrong none = stated_by_rows Meta (λ u less. absurd (omega (arith, less))) wrong none

  -- all are right, and this one doesn't fit the others
  pub stated_beside_others : (t : Table) → ReportedInOrder n db None → IsReportedInOrder n db t
  stated_beside_others t (is, all) = record { before = λ u less. all u; here = inr (inr (λ u. (all u).0, λ e. all)) }

  one_meta : (a b : MetaRow) → IsMetaOf n db (Some a) → IsMetaOf n db (Some b) → a ≡ b
  one_meta a b one two =
      let rows = one_permutation (meta_row a) _ (IsPermutation-trans _ _ _ one.0 (IsPermutation-sym _ _ two.0)) in
      let first : meta_row b ≡ meta_row a = cc in
      sym (same_meta b a first)

  -- what holds of the row of meta holds of each that is
  pub of_meta : (P : MetaRow → Type 0) (a : MetaRow) → IsMetaOf n db (Some a) → P a → (m : MetaRow) → IsMetaOf n db (Some m) → P m
  of_meta P a one it m two = subst P (one_meta a m one two) it

  -- the last moment of a vault that the tables are sound for is that of the row of meta
  last_of : (v : Vault) (m : MetaRow) → IsMetaOf n db (Some m) → AreSoundAs n db v → v.last ≡ m.last
  last_of v m is it =
      let rows = one_permutation (meta_row m) _ (IsPermutation-trans _ _ _ is.0 (IsPermutation-sym _ _ it.spells.meta)) in
      let first : meta_row (meta_stated n v) ≡ meta_row m = cc in
      let same : meta_stated n v ≡ m = same_meta (meta_stated n v) m first in
      ap (λ (x : MetaRow). x.last) same

  -- no vault of that moment, and so none
  pub none_of_meta : (m : MetaRow) → IsMetaOf n db (Some m) → ((v : Vault) → v.last ≡ m.last → ¬ AreSoundAs n db v) → (v : Vault) → ¬ AreSoundAs n db v
  none_of_meta m meta none v it = none v (last_of v m meta it) it

-- ---- the entries beside the row of meta

module _ (n : SchemaVersion) (old new : State) (m : MetaRow) (meta : IsMetaOf n old.now (Some m)) where
  meta_later : IsUnchanged old new → IsMetaOf n new.now (Some m)
  meta_later same = subst (λ (db : Database). IsMetaOf n db (Some m)) (sym same.0.now_is) meta

  pub entries_read_so : (r : Result Bool Error) → OnOk r (IsUnchanged old new) → IfOk r (AreRecords entry_row (IsEntryBy (is_external n) m.last) (map entry_columns (new.now.trees entries_tree))) → IfOk r (AreRowsRight n new.now Entries)
  entries_read_so (Err e) same stated = tt
  entries_read_so (Ok right) same stated = of_meta n new.now (λ (x : MetaRow). AreRecords entry_row (IsEntryBy (is_external n) x.last) (map entry_columns (new.now.trees entries_tree)) right) m (meta_later same) stated

  pub entries_damaged : (r : Result Bool Error) → OnOk r (IsUnchanged old new) → IfOk r (λ right. right ≡ false → (v : Vault) → v.last ≡ m.last → ¬ AreSoundAs n new.now v) → IfOk r (λ right. right ≡ false → (v : Vault) → ¬ AreSoundAs n new.now v)
  entries_damaged (Err e) same none = tt
  entries_damaged (Ok right) same none = λ wrong. none_of_meta n new.now m (meta_later same) (none wrong)

pub survives_itself : (s : State) → Survives s s (λ _. ⊥)
survives_itself s =
    record { clean = omega arith; shield = λ h. h; counts = omega arith; limit = refl; closes = λ _ is_open. inl is_open; crash = λ _ db left. inl left }

pub survives_more : (a b c : State) → Survives a b (λ _. ⊥) → Survives b c (λ _. ⊥) → Survives a c (λ _. ⊥)
survives_more a b c one two = survives_then a b c (λ _. ⊥) (λ _. ⊥) (λ _. ⊥) (λ clean db h. h) (λ clean db h. h) one two
