-- The part of an admission makes the edit of that change, by what was read of the vault before.
use Rattle.std.proofs.Common.{◌≡◌, ℕ, ◌+◌, ◌≤◌, ◌==◌, List, [], ◌∷◌, map, Bool, true, false, Option, Some, None, refl, sym, ap, subst, ◌∙◌}
use Rattle.sqlite_value.specs.Order.{Row}
use Rattle.vault_base.specs.Days.{day, last_moment}
use Rattle.vault_base.specs.declared.content.Content.{Content}
use Rattle.vault_base.specs.declared.content.Content.TheVariants.{Inside, External}
use Rattle.vault_base.specs.declared.refusal.Table.{Table}
use Rattle.vault_base.specs.declared.refusal.Table.TheVariants as table
use Rattle.vault_tally.specs.Row.{IsRowOf}
use Rattle.vault_tally.specs.declared.row.Row.{Row as Sums}
use Rattle.vault_core_model.specs.declared.records.BucketConfig.{BucketConfig}
use Rattle.vault_core_model.specs.declared.records.Entry.{Entry}
use Rattle.vault_core_model.specs.declared.records.Head.{Head}
use Rattle.vault_core_model.specs.declared.records.Setting.{Setting}
use Rattle.vault_core_model.specs.declared.records.Tenure.{Tenure}
use Rattle.vault_core_model.specs.declared.change.Admission.{Admission}
use Rattle.vault_core_model.specs.declared.change.Change.TheVariants as change
use Rattle.vault_core_model.specs.Allowed.{IsAdmission, HasFirst, HasFirstTenure}
use Rattle.vault_core_model.specs.Change.{changed}
use Rattle.vault_core_model.specs.Reads.{head_of}
use Rattle.vault_core_model.specs.Sound.{Sound, HasPlace, IsWholeAs}
use Rattle.vault_core_model.specs.Totals.{items_of}
use Rattle.vault_core_model.specs.Vault.{Vault, config_of}
use Rattle.vault_audit_model.specs.Rows.{setting_row, tenure_row, external_row}
use Rattle.vault_audit_model.specs.Order.{place_of}
use Rattle.vault_audit_model.specs.Spells.{external_if_given, settings_from, tenure_at, department_in}
use Rattle.vault_store_model.specs.Rows.{Rows}
use Rattle.vault_store_model.specs.Edits.{changed_if, pushed, made_if, with_each}
use Rattle.vault_store_model.specs.Tests.{is_named, every, with_last_and_next, with_sums}
use Rattle.vault_store_model.specs.Changes.{summed, headed, head_with, edit_of}
use Rattle.vault_store_model.specs.Sums.{CountsIn}
use Rattle.vault_store_model.proofs.AdmissionLemmas.{as_to, admitted_alike}
use Rattle.vault_store_model.proofs.SumLemmas.{sums_admitted}
use Rattle.vault_store_apply.specs.EntryParts.{entry_added, first_put, first_tenure_put, summed_as}
use Rattle.vault_store_apply.specs.Applies.{IsEditOf}

-- an entry is admitted with one setting at most
one_setting : (marker : Bool) (t id : ℕ) (ss : List Setting) → HasFirst marker t ss → (rows : List Row) → first_put id ss rows ≡ pushed (map setting_row (settings_from id 1 ss)) rows
one_setting true t id [] is rows = refl
one_setting true t id (s ∷ ss) is rows = absurd (let it : s ∷ ss ≡ [] = is in cc)
one_setting false t id [] is rows = absurd is
one_setting false t id (s ∷ []) is rows = refl
one_setting false t id (s ∷ r ∷ rs) is rows = absurd is

-- and with one tenure at most
one_tenure : (marker : Bool) (t id : ℕ) (dept : List ℕ) (ts : List Tenure) → HasFirstTenure marker t dept ts → (rows : List Row) → first_tenure_put id ts rows ≡ pushed (map tenure_row (map (tenure_at id) ts)) rows
one_tenure true t id dept ts is rows = subst (λ (ts : List Tenure). first_tenure_put id ts rows ≡ pushed (map tenure_row (map (tenure_at id) ts)) rows) (sym is) refl
one_tenure false t id dept ts is rows = subst (λ (ts : List Tenure). first_tenure_put id ts rows ≡ pushed (map tenure_row (map (tenure_at id) ts)) rows) (sym is) refl

-- a content that is kept outside is only in a vault that registers such contents
has_place : (marker external : Bool) (e : Entry) (c : Option Content) (ss : List Setting) → IsWholeAs marker external e c ss → HasPlace external c
has_place true external e c ss whole = subst (HasPlace external) (sym whole.2) tt
has_place false external e c ss whole = whole.0.1

-- so its row is put in where the vault has a table for it
outside_put : (external : Bool) (id : ℕ) (c : Option Content) → HasPlace external c → (rows : List Row) (xs : Rows) → xs table.External ≡ rows
    → pushed (map external_row (external_if_given id c)) rows ≡ made_if external (with_each table.External (map external_row (external_if_given id c))) xs table.External
outside_put true id c place rows xs is = ap (pushed (map external_row (external_if_given id c))) (sym is)
outside_put false id None place rows xs is = sym is
outside_put false id (Some (Inside bytes)) place rows xs is = sym is
outside_put false id (Some (External r)) place rows xs is = absurd (cc place)

pub summed_same : (w : Vault) (marker : Bool) (config : BucketConfig) (sums : Sums) → (marker ≡ false → sums ≡ (department_in w config.dept).sums) → (rows : List Row)
    → summed_as marker config.dept sums rows ≡ summed w marker (Some config) rows
summed_same w true config sums is rows = refl
summed_same w false config sums is rows = ap (λ (s : Sums). map (changed_if (is_named config.dept) (with_sums s)) rows) (is refl)

module _ (v : Vault) (t : ℕ) (a : Admission) (config : BucketConfig) (row sums : Sums) (head : Option Head) (newest : Head) (next : ℕ) (sound : Sound v) (later : v.last ≤ t) (low : t ≤ last_moment)
    (is : IsAdmission v t a) (placed : Some config ≡ config_of v a.history.entry.bucket) (stated : IsRowOf row (items_of v config.dept))
    (counted : a.history.entry.marker ≡ false → CountsIn row a.history.entry.size (day t) sums) (headed_is : head ≡ head_of v a.history.entry.bucket a.history.entry.key)
    (newest_is : newest ≡ head_with a.history.entry.id head) (next_is : next ≡ a.history.entry.id + 1) where
  admitted_sums : a.history.entry.marker ≡ false → sums ≡ (department_in (changed v t (change.Admit a)) config.dept).sums
  admitted_sums version = sums_admitted v t a config row sums sound later low is version (sym placed) stated (counted version)

  edits_inside : (xs : Rows) (u : Table) → (place_of u == place_of table.External) ≡ false → entry_added a head newest config.dept sums t next xs u ≡ edit_of (as_to false v) t (change.Admit a) xs u
  edits_inside xs table.Meta other = ap (λ (n : ℕ). map (changed_if every (with_last_and_next t n)) (xs table.Meta)) (next_is ∙ ap (λ (n : ℕ). n + 1) is.id)
  edits_inside xs table.Departments other =
      summed_same (changed v t (change.Admit a)) a.history.entry.marker config sums admitted_sums (xs table.Departments)
      ∙ ap (λ (o : Option BucketConfig). summed (changed v t (change.Admit a)) a.history.entry.marker o (xs table.Departments)) placed
  edits_inside xs table.Callers other = refl
  edits_inside xs table.Buckets other = refl
  edits_inside xs table.Rules other = refl
  edits_inside xs table.Entries other = refl
  edits_inside xs table.Contents other = refl
  edits_inside xs table.Settings other = one_setting a.history.entry.marker t a.history.entry.id a.history.settings is.first (xs table.Settings)
  edits_inside xs table.Intake other = refl
  edits_inside xs table.Heads other =
      let e = a.history.entry in
      ap (λ (n : Head). headed e.bucket e.key head (Some n) (xs table.Heads)) newest_is
      ∙ ap (λ (h : Option Head). headed e.bucket e.key h (Some (head_with e.id h)) (xs table.Heads)) headed_is
  edits_inside xs table.Tenures other = one_tenure a.history.entry.marker t a.history.entry.id is.bucket.dept a.history.tenures is.tenured (xs table.Tenures)
  edits_inside xs table.External other = absurd (cc other)

  pub edits_admission : IsEditOf (entry_added a head newest config.dept sums t next) v t (change.Admit a)
  edits_admission xs table.External =
      outside_put v.external a.history.entry.id a.history.content (has_place a.history.entry.marker v.external a.history.entry a.history.content a.history.settings is.whole) (xs table.External) _ refl
  edits_admission xs u = edits_inside xs u refl ∙ sym (admitted_alike v.external v t a xs u refl)
