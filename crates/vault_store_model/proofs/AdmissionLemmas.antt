-- The edits that admit an entry.
use Rattle.std.proofs.Common.{◌≡◌, ℕ, ◌+◌, ◌==◌, List, [], ◌∷◌, ◌++◌, length, map, flat_map, Bool, true, false, Option, Some, None, IsPermutation, refl, sym, ap, subst, ◌∙◌}
use Rattle.std.specs.Str.{bytes_eq}
use Rattle.std.proofs.lemmas.List.{length-append, map-append}
use Rattle.std.proofs.lemmas.List.Sorted.{IsPermutation-refl, IsPermutation-map, IsPermutation-trans, IsPermutation-to_front, IsPermutation-append_comm}
use Rattle.sqlite_trees.proofs.ListLemmas.{IsPermutation-same}
use Rattle.sqlite_value.specs.Order.{Row}
use Rattle.vault_base.specs.declared.refusal.Table.{Table}
use Rattle.vault_base.specs.declared.refusal.Table.TheVariants as table
use Rattle.vault_core_model.specs.declared.records.BucketConfig.{BucketConfig}
use Rattle.vault_core_model.specs.declared.records.History.{History}
use Rattle.vault_core_model.specs.declared.records.Note.{Note}
use Rattle.vault_core_model.specs.declared.change.Admission.{Admission}
use Rattle.vault_core_model.specs.declared.change.Change.TheVariants.{Admit}
use Rattle.vault_core_model.specs.Allowed.{IsAdmission}
use Rattle.vault_core_model.specs.Change.{changed}
use Rattle.vault_core_model.specs.Order.{note_cmp, placed_if_given}
use Rattle.vault_core_model.specs.Sound.{Sound}
use Rattle.vault_core_model.specs.Totals.{items_of}
use Rattle.vault_core_model.specs.Vault.{Vault, config_of}
use Rattle.vault_audit_model.specs.Order.{place_of}
use Rattle.vault_audit_model.specs.SchemaVersions.{number_of, edition_of}
use Rattle.vault_audit_model.specs.Rows.{meta_row, department_row, entry_row, content_row, setting_row, note_row, tenure_row, external_row}
use Rattle.vault_audit_model.specs.Spells.{contents_in, external_in, external_rows_of, settings_in, tenures_in, department_in}
use Rattle.vault_store_model.specs.Rows.{Rows, rows_of}
use Rattle.vault_store_model.specs.Edits.{made_if, with_each, pushed}
use Rattle.vault_store_model.specs.Changes.{edit_of, added_if_given, summed}
use Rattle.vault_store_model.specs.Beside.{AreSameBesideHeads}
use Rattle.vault_store_model.proofs.TenureLemmas.{marker_admitted, other_admitted}
use Rattle.vault_store_model.proofs.EntryLemmas.{items_other, sums_written, texts_turned}
use Rattle.vault_store_model.proofs.ListLemmas.{placed_in_front, pushed_in_front, flat_map-append, flat_map_one}
use Rattle.vault_store_model.proofs.RecordLemmas.{sums_by_items}

-- what one more history brings stands in front
stated_in_front : {A : Type 0} (row : A → Row) (decides : History → List A) (hs : List History) (h : History) → IsPermutation (map row (flat_map decides (hs ++ h ∷ []))) (map row (decides h) ++ map row (flat_map decides hs))
stated_in_front row decides hs h =
    IsPermutation-trans _ _ _ (IsPermutation-same _ _ (
    ap (map row) (flat_map-append decides hs (h ∷ []) ∙ ap (λ l. flat_map decides hs ++ l) (flat_map_one decides h))
    ∙ map-append row (flat_map decides hs) (decides h)))
    (IsPermutation-append_comm (map row (flat_map decides hs)) (map row (decides h)))

note_added : (note : Option Note) (ns : List Note) → IsPermutation (map note_row (placed_if_given note_cmp note ns)) (added_if_given note_row note (map note_row ns))
note_added None ns = IsPermutation-refl _
note_added (Some n) ns = IsPermutation-map note_row _ _ (placed_in_front note_cmp n ns)

-- ---- sums

sums_of_marker : (v w : Vault) (m : Bool) (config : Option BucketConfig) → m ≡ true → ((d : List ℕ) → items_of w d ≡ items_of v d)
    → map (λ d. department_row (department_in w d)) v.departments ≡ summed w m config (map (λ d. department_row (department_in v d)) v.departments)
sums_of_marker v w true config e same = sums_by_items v w same
sums_of_marker v w false config e same = absurd (cc e)

sums_of_version : (v w : Vault) (m : Bool) (o : Option BucketConfig) (config : BucketConfig) → m ≡ false → o ≡ Some config → ((d : List ℕ) → bytes_eq d config.dept ≡ false → items_of w d ≡ items_of v d)
    → map (λ d. department_row (department_in w d)) v.departments ≡ summed w m o (map (λ d. department_row (department_in v d)) v.departments)
sums_of_version v w m o config e there others =
    subst (λ b. map (λ d. department_row (department_in w d)) v.departments ≡ summed w b o (map (λ d. department_row (department_in v d)) v.departments)) (sym e)
    (subst (λ c. map (λ d. department_row (department_in w d)) v.departments ≡ summed w false c (map (λ d. department_row (department_in v d)) v.departments)) (sym there)
    (sums_written v w config v.departments others))

-- the sums of departments, where an entry changes that is a marker, or a version of the department of this bucket
pub sums_changed : (v w : Vault) (m : Bool) (o : Option BucketConfig) (config : BucketConfig) → o ≡ Some config
    → (m ≡ true → (d : List ℕ) → items_of w d ≡ items_of v d) → ((d : List ℕ) → bytes_eq d config.dept ≡ false → items_of w d ≡ items_of v d)
    → map (λ d. department_row (department_in w d)) v.departments ≡ summed w m o (map (λ d. department_row (department_in v d)) v.departments)
sums_changed v w m o config there marker others =
    elim m as (λ b. m ≡ b → map (λ d. department_row (department_in w d)) v.departments ≡ summed w m o (map (λ d. department_row (department_in v d)) v.departments)) [
      | true ↦ λ e. sums_of_marker v w m o e (marker e)
      | false ↦ λ e. sums_of_version v w m o config e there others
    ] refl

-- ---- the change

next_after : (schema t moves : ℕ) (hs : List History) (h : History)
    → meta_row (record { schema = schema; last = t; next = length (hs ++ h ∷ []) + 1; moves = moves }) ≡ meta_row (record { schema = schema; last = t; next = length hs + 1 + 1; moves = moves })
next_after schema t moves hs h = ap (λ n. meta_row (record { schema = schema; last = t; next = n + 1; moves = moves })) (length-append hs (h ∷ []))

-- a vault with the same records, which registers contents that are kept outside, or doesn't
abbrev pub as_to : Bool → Vault → Vault
as_to external v = record v { external = external }

-- in every table but that of external, such contents make no difference
pub admitted_alike : (external : Bool) (v : Vault) (t : ℕ) (a : Admission) (xs : Rows) (s : Table) → (place_of s == place_of table.External) ≡ false
    → edit_of (as_to external v) t (Admit a) xs s ≡ edit_of (as_to false v) t (Admit a) xs s
admitted_alike false v t a xs s other = refl
admitted_alike true v t a xs table.External other = absurd (cc other)
admitted_alike true v t a xs _ other = refl

external_admitted : (external : Bool) (hs : List History) (h : History) (xs : Rows) → xs table.External ≡ external_rows_of (edition_of external) hs
    → IsPermutation (external_rows_of (edition_of external) (hs ++ h ∷ [])) (made_if external (with_each table.External (map external_row (external_in h))) xs table.External)
external_admitted false hs h xs is = IsPermutation-same _ _ (sym is)
external_admitted true hs h xs is =
    subst (λ rows. IsPermutation (map external_row (flat_map external_in (hs ++ h ∷ []))) (pushed (map external_row (external_in h)) rows)) (sym is)
    (IsPermutation-trans _ _ _ (stated_in_front external_row external_in hs h) (pushed_in_front (map external_row (external_in h)) _))

inside_admitted : (v : Vault) (t : ℕ) (a : Admission) → Sound v → IsAdmission v t a → (s : Table) → (place_of s == place_of table.Heads) ≡ false → (place_of s == place_of table.External) ≡ false
    → IsPermutation (rows_of (changed v t (Admit a)) s) (edit_of (as_to false v) t (Admit a) (rows_of v) s)
inside_admitted v t a sound is table.Meta beside other = IsPermutation-same _ _ (ap (λ row. row ∷ []) (next_after (number_of (edition_of v.external)) t v.moves v.histories a.history))
inside_admitted v t a sound is table.Entries beside other = IsPermutation-map (λ h. entry_row h.entry) _ _ (IsPermutation-to_front v.histories a.history)
inside_admitted v t a sound is table.Contents beside other =
    IsPermutation-trans _ _ _ (stated_in_front content_row contents_in v.histories a.history) (pushed_in_front (map content_row (contents_in a.history)) _)
inside_admitted v t a sound is table.Settings beside other =
    IsPermutation-trans _ _ _ (stated_in_front setting_row settings_in v.histories a.history) (pushed_in_front (map setting_row (settings_in a.history)) _)
inside_admitted v t a sound is table.Tenures beside other =
    IsPermutation-trans _ _ _ (stated_in_front tenure_row tenures_in v.histories a.history) (pushed_in_front (map tenure_row (tenures_in a.history)) _)
inside_admitted v t a sound is table.Intake beside other = note_added a.note v.notes
inside_admitted v t a sound is table.Departments beside other =
    IsPermutation-same _ _ (sums_changed v (changed v t (Admit a)) a.history.entry.marker (config_of v a.history.entry.bucket) is.bucket is.placed
    (λ marker d. items_other d v.histories a.history (marker_admitted a.history.entry.marker t is.bucket.dept d a.history is.tenured marker))
    (λ d apart. items_other d v.histories a.history (other_admitted a.history.entry.marker t is.bucket.dept d a.history is.tenured (texts_turned d is.bucket.dept false apart))))
inside_admitted v t a sound is table.Heads beside other = absurd (cc beside)
inside_admitted v t a sound is table.External beside other = absurd (cc other)
inside_admitted v t a sound is _ beside other = IsPermutation-refl _

pub entry_admitted : (v : Vault) (t : ℕ) (a : Admission) → Sound v → IsAdmission v t a → AreSameBesideHeads (rows_of (changed v t (Admit a))) (edit_of v t (Admit a) (rows_of v))
entry_admitted v t a sound is table.External beside = external_admitted v.external v.histories a.history _ refl
entry_admitted v t a sound is s beside =
    subst (IsPermutation (rows_of (changed v t (Admit a)) s)) (sym (admitted_alike v.external v t a (rows_of v) s refl)) (inside_admitted v t a sound is s beside refl)
