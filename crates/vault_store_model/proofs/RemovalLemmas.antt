-- The edits that remove an entry.
use Rattle.std.proofs.Common.{◌≡◌, ℕ, ◌==◌, List, [], ◌∷◌, ◌++◌, map, filter, flat_map, cond, not, Bool, true, false, Option, Some, None, IsSome, IsPermutation, refl, sym, ap, subst, ◌∙◌, eqb}
use Rattle.std.specs.Prelude.{find, if◌then◌else◌}
use Rattle.std.specs.List.{AllByRecursion}
use Rattle.std.proofs.lemmas.List.{map-append}
use Rattle.std.proofs.lemmas.List.Sorted.{IsPermutation-refl}
use Rattle.sqlite_trees.proofs.ListLemmas.{IsPermutation-same, all_weaker}
use Rattle.sqlite_value.specs.Order.{Row}
use Rattle.vault_base.specs.declared.content.Content.{Content}
use Rattle.vault_base.specs.declared.content.Content.TheVariants.{Inside, External}
use Rattle.vault_base.specs.declared.refusal.Table.{Table}
use Rattle.vault_base.specs.declared.refusal.Table.TheVariants as table
use Rattle.vault_core_model.specs.declared.records.BucketConfig.{BucketConfig}
use Rattle.vault_core_model.specs.declared.records.Entry.{Entry}
use Rattle.vault_core_model.specs.declared.records.History.{History}
use Rattle.vault_core_model.specs.declared.records.Removal.{Removal}
use Rattle.vault_core_model.specs.declared.change.Change.TheVariants.{Remove}
use Rattle.vault_core_model.specs.Allowed.{IsRemoval}
use Rattle.vault_core_model.specs.Change.{changed, removed_by, removed_if}
use Rattle.vault_core_model.specs.Reads.{entry_of}
use Rattle.vault_core_model.specs.Sound.{Sound, HasTenures, IsPlaced}
use Rattle.vault_core_model.specs.Totals.{items_by, items_of, shares_of}
use Rattle.vault_core_model.specs.Vault.{Vault, config_of, history_of}
use Rattle.vault_audit_model.specs.Order.{place_of}
use Rattle.vault_audit_model.specs.SchemaVersions.{number_of, edition_of}
use Rattle.vault_audit_model.specs.Rows.{entry_row, content_row, setting_row, tenure_row, external_row}
use Rattle.vault_audit_model.specs.Spells.{contents_in, external_in, external_rows_of, settings_in, tenures_in, content_if_given, external_if_given}
use Rattle.vault_store_model.specs.Rows.{Rows, rows_of}
use Rattle.vault_store_model.specs.Edits.{changed_if, made_if, without, and_then, at_moment}
use Rattle.vault_store_model.specs.Tests.{is_numbered, removed_row}
use Rattle.vault_store_model.specs.Changes.{edit_of, without_entry}
use Rattle.vault_store_model.specs.Beside.{AreSameBesideHeads}
use Rattle.vault_store_model.proofs.AdmissionLemmas.{as_to, sums_changed}
use Rattle.vault_store_model.proofs.EntryLemmas.{found_history, each_is, items_mapped, texts_turned}
use Rattle.vault_store_model.proofs.ListLemmas.{map_rows, flat_map_unread, filter-append}
use Rattle.vault_store_model.proofs.SettingLemmas.{next_kept}
use Rattle.vault_store_model.proofs.TenureLemmas.{other_removed, marker_removed}

-- ---- rows of one entry

entry_row_removed : (id : ℕ) (r : Removal) (h : History) → entry_row (removed_if id r h).entry ≡ changed_if (is_numbered id) (removed_row r) (entry_row h.entry)
entry_row_removed id r h =
    elim (eqb h.entry.id id) as (λ b. entry_row (if b then removed_by r h else h).entry ≡ cond b (removed_row r (entry_row h.entry)) (entry_row h.entry)) [ true ↦ refl | false ↦ refl ]

settings_kept : (id : ℕ) (r : Removal) (h : History) → settings_in (removed_if id r h) ≡ settings_in h
settings_kept id r h = elim (eqb h.entry.id id) as (λ b. settings_in (if b then removed_by r h else h) ≡ settings_in h) [ true ↦ refl | false ↦ refl ]

tenures_kept : (id : ℕ) (r : Removal) (h : History) → tenures_in (removed_if id r h) ≡ tenures_in h
tenures_kept id r h = elim (eqb h.entry.id id) as (λ b. tenures_in (if b then removed_by r h else h) ≡ tenures_in h) [ true ↦ refl | false ↦ refl ]

-- a row that bears an id is dropped, or stays
one_dropped : (id own : ℕ) (row : Row) → is_numbered id row ≡ (own == id) → filter (λ r. not (is_numbered id r)) (row ∷ []) ≡ cond (own == id) [] (row ∷ [])
one_dropped id own row is =
    ap (λ b. cond (not b) (row ∷ []) []) is ∙ elim (eqb own id) as (λ b. cond (not b) (row ∷ []) [] ≡ cond b [] (row ∷ [])) [ true ↦ refl | false ↦ refl ]

none_dropped : (b : Bool) → ◌≡◌ {A = List Row} [] (cond b [] [])
none_dropped true = refl
none_dropped false = refl

-- the bytes that bear an id
dropped_content : (id own : ℕ) (content : Option Content) → filter (λ row. not (is_numbered id row)) (map content_row (content_if_given own content)) ≡ cond (own == id) [] (map content_row (content_if_given own content))
dropped_content id own None = none_dropped (own == id)
dropped_content id own (Some (External r)) = none_dropped (own == id)
dropped_content id own (Some (Inside bytes)) = one_dropped id own (content_row (record { id = own; content = bytes })) refl

-- and the version, where its bytes are kept outside
dropped_external : (id own : ℕ) (content : Option Content) → filter (λ row. not (is_numbered id row)) (map external_row (external_if_given own content)) ≡ cond (own == id) [] (map external_row (external_if_given own content))
dropped_external id own None = none_dropped (own == id)
dropped_external id own (Some (Inside bytes)) = none_dropped (own == id)
dropped_external id own (Some (External r)) = one_dropped id own (external_row own) refl

contents_removed : (id : ℕ) (r : Removal) (h : History) → map content_row (contents_in (removed_if id r h)) ≡ cond (h.entry.id == id) [] (map content_row (contents_in h))
contents_removed id r h = elim (eqb h.entry.id id) as (λ b. map content_row (contents_in (if b then removed_by r h else h)) ≡ cond b [] (map content_row (contents_in h))) [ true ↦ refl | false ↦ refl ]

external_removed : (id : ℕ) (r : Removal) (h : History) → map external_row (external_in (removed_if id r h)) ≡ cond (h.entry.id == id) [] (map external_row (external_in h))
external_removed id r h = elim (eqb h.entry.id id) as (λ b. map external_row (external_in (if b then removed_by r h else h)) ≡ cond b [] (map external_row (external_in h))) [ true ↦ refl | false ↦ refl ]

-- of all histories, where it is so of each
all_dropped : {A : Type 0} (row : A → Row) (states : History → List A) (id : ℕ) (r : Removal)
    → ((h : History) → map row (states (removed_if id r h)) ≡ filter (λ x. not (is_numbered id x)) (map row (states h))) → (hs : List History)
    → map row (flat_map states (map (removed_if id r) hs)) ≡ filter (λ x. not (is_numbered id x)) (map row (flat_map states hs))
all_dropped row states id r each [] = refl
all_dropped row states id r each (h ∷ hs) =
    let kept = λ (x : Row). not (is_numbered id x) in
    map-append row (states (removed_if id r h)) (flat_map states (map (removed_if id r) hs))
    ∙ ap (λ l. map row (states (removed_if id r h)) ++ l) (all_dropped row states id r each hs)
    ∙ ap (λ l. l ++ filter kept (map row (flat_map states hs))) (each h)
    ∙ sym (filter-append kept (map row (states h)) (map row (flat_map states hs)))
    ∙ ap (filter kept) (sym (map-append row (states h) (flat_map states hs)))

contents_dropped : (id : ℕ) (r : Removal) (hs : List History) → map content_row (flat_map contents_in (map (removed_if id r) hs)) ≡ filter (λ row. not (is_numbered id row)) (map content_row (flat_map contents_in hs))
contents_dropped id r hs = all_dropped content_row contents_in id r (λ h. contents_removed id r h ∙ sym (dropped_content id h.entry.id h.content)) hs

external_dropped : (external : Bool) (id : ℕ) (r : Removal) (hs : List History) (xs : Rows) → xs table.External ≡ external_rows_of (edition_of external) hs
    → external_rows_of (edition_of external) (map (removed_if id r) hs) ≡ made_if external (without table.External (is_numbered id)) xs table.External
external_dropped false id r hs xs is = sym is
external_dropped true id r hs xs is =
    all_dropped external_row external_in id r (λ h. external_removed id r h ∙ sym (dropped_external id h.entry.id h.content)) hs
    ∙ ap (filter (λ row. not (is_numbered id row))) (sym is)

-- ---- sums

-- a history that isn't the removed one counts as before, and so does that one where its tenures do
history_kept : (d : List ℕ) (id : ℕ) (r : Removal) (g : History) → items_by d (shares_of (removed_by r g)) ≡ items_by d (shares_of g) → (h : History) → ((h.entry.id == id) ≡ true → h ≡ g)
    → items_by d (shares_of (removed_if id r h)) ≡ items_by d (shares_of h)
history_kept d id r g same h is =
    elim (eqb h.entry.id id) as (λ b. eqb h.entry.id id ≡ b → items_by d (shares_of (if b then removed_by r h else h)) ≡ items_by d (shares_of h)) [
      | true ↦ λ here. subst (λ (x : History). items_by d (shares_of (removed_by r x)) ≡ items_by d (shares_of x)) (sym (is here)) same
      | false ↦ λ _. refl
    ] refl

items_kept : (v : Vault) (t id : ℕ) (r : Removal) (g : History) (d : List ℕ) → Sound v → history_of v id ≡ Some g → items_by d (shares_of (removed_by r g)) ≡ items_by d (shares_of g)
    → items_of (changed v t (Remove id r)) d ≡ items_of v d
items_kept v t id r g d sound found same =
    items_mapped d (removed_if id r) v.histories
    (all_weaker (λ h. (h.entry.id == id) ≡ true → h ≡ g) (λ h. items_by d (shares_of (removed_if id r h)) ≡ items_by d (shares_of h))
    (λ h is. history_kept d id r g same h is) v.histories (each_is v.histories id g sound.ids found))

-- ---- the history that was found

pub found_all : (P : History → Type 0) (p : History → Bool) (hs : List History) (g : History) → AllByRecursion P hs → find p hs ≡ Some g → P g
found_all P p [] g all found = absurd (cc found)
found_all P p (h ∷ hs) g all found =
    elim (p h) as (λ b. (if b then Some h else find p hs) ≡ Some g → P g) [
      | true ↦ λ e. let same : h ≡ g = cc e in subst P same all.0
      | false ↦ λ e. found_all P p hs g all.1 e
    ] found

some_is : {A : Type 0} (o : Option A) → IsSome o → (x : A) × (o ≡ Some x)
some_is None there = absurd (cc there)
some_is (Some x) there = (x, refl)

-- ---- the change

-- the edits of the removal of this entry
abbrev pub edit_found : Vault → ℕ → ℕ → Removal → Entry → Rows → Rows
edit_found v t id r e = and_then (without_entry v (changed v t (Remove id r)) id r (Some e)) (at_moment t)

-- in every table but that of external, contents that are kept outside make no difference
pub removed_alike : (external : Bool) (v : Vault) (t id : ℕ) (r : Removal) (e : Entry) (xs : Rows) (s : Table) → (place_of s == place_of table.External) ≡ false
    → edit_found (as_to external v) t id r e xs s ≡ edit_found (as_to false v) t id r e xs s
removed_alike false v t id r e xs s other = refl
removed_alike true v t id r e xs table.External other = absurd (cc other)
removed_alike true v t id r e xs _ other = refl

inside_removed : (v : Vault) (t id : ℕ) (r : Removal) (g : History) (config : BucketConfig) → Sound v → history_of v id ≡ Some g → HasTenures v g → g.entry.removal ≡ None → config_of v g.entry.bucket ≡ Some config
    → (s : Table) → (place_of s == place_of table.Heads) ≡ false → (place_of s == place_of table.External) ≡ false
    → IsPermutation (rows_of (changed v t (Remove id r)) s) (edit_found (as_to false v) t id r g.entry (rows_of v) s)
inside_removed v t id r g config sound found tenured held placed table.Meta beside other = IsPermutation-same _ _ (ap (λ row. row ∷ []) (next_kept (number_of (edition_of v.external)) t v.moves (removed_if id r) v.histories))
inside_removed v t id r g config sound found tenured held placed table.Entries beside other = IsPermutation-same _ _ (map_rows (λ h. entry_row h.entry) (removed_if id r) (changed_if (is_numbered id) (removed_row r)) (entry_row_removed id r) v.histories)
inside_removed v t id r g config sound found tenured held placed table.Contents beside other = IsPermutation-same _ _ (contents_dropped id r v.histories)
inside_removed v t id r g config sound found tenured held placed table.Settings beside other = IsPermutation-same _ _ (ap (map setting_row) (flat_map_unread settings_in (removed_if id r) (settings_kept id r) v.histories))
inside_removed v t id r g config sound found tenured held placed table.Tenures beside other = IsPermutation-same _ _ (ap (map tenure_row) (flat_map_unread tenures_in (removed_if id r) (tenures_kept id r) v.histories))
inside_removed v t id r g config sound found tenured held placed table.Departments beside other =
    IsPermutation-same _ _ (sums_changed v (changed v t (Remove id r)) g.entry.marker (config_of v g.entry.bucket) config placed
    (λ marker d. items_kept v t id r g d sound found (marker_removed v g.entry.marker g r d tenured marker))
    (λ d apart. items_kept v t id r g d sound found (other_removed v g.entry.marker g r config d tenured held placed (texts_turned d config.dept false apart))))
inside_removed v t id r g config sound found tenured held placed table.Heads beside other = absurd (cc beside)
inside_removed v t id r g config sound found tenured held placed table.External beside other = absurd (cc other)
inside_removed v t id r g config sound found tenured held placed _ beside other = IsPermutation-refl _

removed : (v : Vault) (t id : ℕ) (r : Removal) (g : History) (config : BucketConfig) → Sound v → history_of v id ≡ Some g → HasTenures v g → g.entry.removal ≡ None → config_of v g.entry.bucket ≡ Some config
    → AreSameBesideHeads (rows_of (changed v t (Remove id r))) (edit_found v t id r g.entry (rows_of v))
removed v t id r g config sound found tenured held placed table.External beside = IsPermutation-same _ _ (external_dropped v.external id r v.histories _ refl)
removed v t id r g config sound found tenured held placed s beside =
    subst (IsPermutation (rows_of (changed v t (Remove id r)) s)) (sym (removed_alike v.external v t id r g.entry (rows_of v) s refl)) (inside_removed v t id r g config sound found tenured held placed s beside refl)

pub entry_removed : (v : Vault) (t id : ℕ) (r : Removal) → Sound v → IsRemoval v t id r → AreSameBesideHeads (rows_of (changed v t (Remove id r))) (edit_of v t (Remove id r) (rows_of v))
entry_removed v t id r sound is =
    let held = is.held in
    let found = found_history (history_of v id) held.0 held.1 in
    let g = found.0 in
    let config = some_is (config_of v g.entry.bucket) (found_all (IsPlaced v) (λ h. h.entry.id == id) v.histories g sound.placed found.1) in
    let there : entry_of v id ≡ Some g.entry = held.1 ∙ ap Some (sym found.2) in
    subst (λ (o : Option Entry). AreSameBesideHeads (rows_of (changed v t (Remove id r))) (and_then (without_entry v (changed v t (Remove id r)) id r o) (at_moment t) (rows_of v))) (sym there)
    (removed v t id r g config.0 sound found.1 (found_all (HasTenures v) (λ h. h.entry.id == id) v.histories g sound.tenured found.1) (ap (λ (e : Entry). e.removal) found.2 ∙ held.2) config.1)
