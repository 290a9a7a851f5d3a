-- What stays known of a vault after a change.
use Rattle.std.proofs.Common.{◌≡◌, ℕ, ◌+◌, ◌≤◌, List, [], ◌∷◌, Bool, true, false, Option, Some, None, IfSome, refl, sym, ap, subst, ◌∙◌}
use Rattle.std.specs.Prelude.{option_map, slice_get, unwrap_or}
use Rattle.std.proofs.lemmas.List.{length-append, length-map}
use Rattle.vault_base.specs.Days.{day, last_moment}
use Rattle.vault_tally.specs.Row.{Item, IsRowOf}
use Rattle.vault_tally.specs.declared.row.Row.{Row as Sums}
use Rattle.vault_core_model.specs.declared.change.Admission.{Admission}
use Rattle.vault_core_model.specs.declared.change.Change.TheVariants as change
use Rattle.vault_core_model.specs.declared.records.Removal.{Removal}
use Rattle.vault_core_model.specs.declared.records.Setting.{Setting}
use Rattle.vault_core_model.specs.declared.records.Tenure.{Tenure}
use Rattle.vault_core_model.specs.Allowed.{IsAdmission, HasFirstTenure}
use Rattle.vault_core_model.specs.Change.{changed, removed_if, with_setting}
use Rattle.vault_core_model.specs.Sound.{Sound}
use Rattle.vault_core_model.specs.Totals.{IsRowFor, items_of}
use Rattle.vault_core_model.specs.Vault.{Vault, next_id}
use Rattle.vault_audit_model.specs.declared.rows.DepartmentRow.{DepartmentRow}
use Rattle.vault_audit_model.specs.declared.rows.MetaRow.{MetaRow}
use Rattle.vault_audit_model.specs.Spells.{meta_of, sums_over}
use Rattle.vault_store_model.specs.Sums.{CountsIn}
use Rattle.vault_store_model.proofs.EntryLemmas.{items_other}
use Rattle.vault_store_model.proofs.SumLemmas.{sums_admitted}
use Rattle.vault_store_model.proofs.TenureLemmas.{marker_admitted}

-- ---- a change that admits nothing

pub meta_passes : (meta : Option MetaRow) (v w : Vault) (t : ℕ) → IfSome meta (λ m. m ≡ meta_of v) → w.last ≡ t → next_id w ≡ next_id v → w.moves ≡ v.moves → w.external ≡ v.external
    → IfSome (option_map (λ (m : MetaRow). record m { last = t }) meta) (λ m. m ≡ meta_of w)
meta_passes None v w t is last next moves external = tt
meta_passes (Some m) v w t is last next moves external = rw (is, last, next, moves, external) refl

-- ---- an admission

next_follows : (v : Vault) (t : ℕ) (a : Admission) → next_id v + 1 ≡ next_id (changed v t (change.Admit a))
next_follows v t a = ap (λ n. n + 1) (sym (length-append v.histories (a.history ∷ [])))

pub meta_admits : (meta next : Option MetaRow) (v : Vault) (t : ℕ) (a : Admission) → IfSome meta (λ m. m ≡ meta_of v)
    → IfSome next (λ n. (m : MetaRow) × (meta ≡ Some m) × (n ≡ record m { last = t; next = m.next + 1 })) → IfSome next (λ m. m ≡ meta_of (changed v t (change.Admit a)))
meta_admits meta None v t a is follows = tt
meta_admits meta (Some n) v t a is follows =
    let was : follows.0 ≡ meta_of v = subst (λ (o : Option MetaRow). IfSome o (λ m. m ≡ meta_of v)) follows.1 is in
    follows.2 ∙ ap (λ (x : MetaRow). record x { last = t; next = x.next + 1 }) was ∙ ap (λ k. record (meta_of v) { last = t; next = k }) (next_follows v t a)

row_over : (row : Sums) (items : List Item) → row ≡ sums_over items → IsRowOf row items
row_over row items is = subst (λ (r : Sums). IsRowOf r items) (sym is) record { admitted = refl; received = refl; held = refl; removed = refl; handed = refl; weighted = refl; closed = refl }

-- a marker counts for no department
pub sums_unmarked : (v : Vault) (t : ℕ) (a : Admission) (sums : Option DepartmentRow) → IsAdmission v t a → a.history.entry.marker ≡ true
    → IfSome sums (λ d. IsRowFor v d.name d.sums) → IfSome sums (λ d. IsRowFor (changed v t (change.Admit a)) d.name d.sums)
sums_unmarked v t a None is marker stated = tt
sums_unmarked v t a (Some d) is marker stated =
    subst (IsRowOf d.sums) (sym (items_other d.name v.histories a.history (marker_admitted a.history.entry.marker t is.bucket.dept d.name a.history is.tenured marker))) stated

-- without a tenure an entry is a marker
no_tenure : (marker : Bool) (t : ℕ) (dept : List ℕ) (ts : List Tenure) → HasFirstTenure marker t dept ts → slice_get ts 0 ≡ None → marker ≡ true
no_tenure true t dept ts is absent = refl
no_tenure false t dept ts is absent =
    let both : Some (record { dept = dept; from = t; number = 0 }) ≡ None = sym (ap (λ (xs : List Tenure). slice_get xs 0) is) ∙ absent in
    absurd (cc both)

-- with one it is a version, and that is its bucket's department's
with_tenure : (marker : Bool) (t : ℕ) (dept : List ℕ) (ts : List Tenure) (x : Tenure) → HasFirstTenure marker t dept ts → slice_get ts 0 ≡ Some x → (marker ≡ false) × (x.dept ≡ dept)
with_tenure true t dept ts x is one =
    let both : None ≡ Some x = sym (ap (λ (xs : List Tenure). slice_get xs 0) is) ∙ one in
    absurd (cc both)
with_tenure false t dept ts x is one =
    let both : Some x ≡ Some (record { dept = dept; from = t; number = 0 }) = sym one ∙ ap (λ (xs : List Tenure). slice_get xs 0) is in
    let same : x ≡ record { dept = dept; from = t; number = 0 } = ap (λ (o : Option Tenure). unwrap_or o x) both in
    (refl, ap (λ (y : Tenure). y.dept) same)

pub marker_known : (v : Vault) (t : ℕ) (a : Admission) (sums : Option DepartmentRow) → IsAdmission v t a → slice_get a.history.tenures 0 ≡ None
    → IfSome sums (λ d. IsRowFor v d.name d.sums) → IfSome sums (λ d. IsRowFor (changed v t (change.Admit a)) d.name d.sums)
marker_known v t a sums is absent stated = sums_unmarked v t a sums is (no_tenure a.history.entry.marker t is.bucket.dept a.history.tenures is.tenured absent) stated

-- the sums of its department after a version's admission
pub version_known : (v : Vault) (t : ℕ) (a : Admission) (x : Tenure) (sums new : Option DepartmentRow) → Sound v → v.last ≤ t → t ≤ last_moment → IsAdmission v t a → slice_get a.history.tenures 0 ≡ Some x
    → IfSome sums (λ d. IsRowFor v d.name d.sums)
    → IfSome new (λ n. (old : DepartmentRow) × (sums ≡ Some old) × (old.name ≡ x.dept) × (n.name ≡ x.dept) × CountsIn old.sums a.history.entry.size (day t) n.sums)
    → IfSome new (λ d. IsRowFor (changed v t (change.Admit a)) d.name d.sums)
version_known v t a x sums None sound later low is one stated counts = tt
version_known v t a x sums (Some n) sound later low is one stated counts =
    let old = counts.0 in
    let version = with_tenure a.history.entry.marker t is.bucket.dept a.history.tenures x is.tenured one in
    let named : old.name ≡ is.bucket.dept = counts.2 ∙ version.1 in
    let own : IsRowFor v old.name old.sums = subst (λ (o : Option DepartmentRow). IfSome o (λ d. IsRowFor v d.name d.sums)) counts.1 stated in
    let row : IsRowFor v is.bucket.dept old.sums = subst (λ (d : List ℕ). IsRowFor v d old.sums) named own in
    let sum = sums_admitted v t a is.bucket old.sums n.sums sound later low is version.0 is.placed row counts.4 in
    subst (λ (d : List ℕ). IsRowFor (changed v t (change.Admit a)) d n.sums) (sym (counts.3 ∙ version.1)) (row_over n.sums (items_of (changed v t (change.Admit a)) is.bucket.dept) sum)

-- as many histories after a setting, and after a removal
pub as_many_set : (v : Vault) (t id : ℕ) (s : Setting) → next_id (changed v t (change.AddSetting id s)) ≡ next_id v
as_many_set v t id s = ap (λ n. n + 1) (length-map v.histories (with_setting id s))

pub as_many_removed : (v : Vault) (t id : ℕ) (r : Removal) → next_id (changed v t (change.Remove id r)) ≡ next_id v
as_many_removed v t id r = ap (λ n. n + 1) (length-map v.histories (removed_if id r))
