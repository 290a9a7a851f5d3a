-- The edit that adds a setting to a version.
use Rattle.std.proofs.Common.{◌≡◌, ℕ, ◌+◌, ◌<◌, ◌==◌, List, [], ◌∷◌, ◌++◌, length, map, flat_map, Bool, true, false, Option, Some, IsPermutation, refl, sym, ap, subst, ◌∙◌, arith, eqb, append_assoc}
use Rattle.std.specs.Prelude.{find, option_and_then, if◌then◌else◌}
use Rattle.std.specs.List.{AllByRecursion}
use Rattle.std.proofs.lemmas.Bool.{eqb-true}
use Rattle.std.proofs.lemmas.List.{length-map}
use Rattle.std.proofs.lemmas.List.Sorted.{IsPermutation-refl, IsPermutation-map, IsPermutation-trans, IsPermutation-middle, IsPermutation-append_right}
use Rattle.sqlite_trees.proofs.ListLemmas.{IsPermutation-same, all_of}
use Rattle.vault_base.specs.declared.refusal.Table.TheVariants as table
use Rattle.vault_core_model.specs.declared.records.History.{History}
use Rattle.vault_core_model.specs.declared.records.Setting.{Setting}
use Rattle.vault_core_model.specs.declared.change.Change.TheVariants.{AddSetting}
use Rattle.vault_core_model.specs.Allowed.{IsNextSetting}
use Rattle.vault_core_model.specs.Change.{changed, with_setting}
use Rattle.vault_core_model.specs.Reads.{last_setting, setting_of, count_of_settings}
use Rattle.vault_core_model.specs.Sound.{Sound, AreIdsFrom}
use Rattle.vault_core_model.specs.Totals.{items_by, items_of, shares_of}
use Rattle.vault_core_model.specs.Vault.{Vault, history_of}
use Rattle.vault_audit_model.specs.declared.rows.SettingRow.{SettingRow}
use Rattle.vault_audit_model.specs.SchemaVersions.{number_of, edition_of}
use Rattle.vault_audit_model.specs.declared.schema.SchemaVersion.{SchemaVersion}
use Rattle.vault_audit_model.specs.declared.schema.SchemaVersion.TheVariants.{First, Second, Third, Fourth}
use Rattle.vault_audit_model.specs.Rows.{meta_row, entry_row, content_row, setting_row, tenure_row, external_row}
use Rattle.vault_audit_model.specs.Spells.{settings_from, settings_in, contents_in, external_in, external_rows_of, tenures_in}
use Rattle.vault_core_laws.proofs.Soundness.{setting_count}
use Rattle.vault_store_model.specs.Rows.{rows_of}
use Rattle.vault_store_model.specs.Changes.{edit_of}
use Rattle.vault_store_model.specs.Beside.{AreSameBesideHeads}
use Rattle.vault_store_model.proofs.EntryLemmas.{other_ids, found_history, items_mapped}
use Rattle.vault_store_model.proofs.ListLemmas.{map_unread, flat_map_unread}
use Rattle.vault_store_model.proofs.RecordLemmas.{sums_by_items}

-- ---- the settings of one version

abbrev row_at : ℕ → ℕ → Setting → SettingRow
row_at id place s = record { id = id; place = place; setting = s }

settings_push : (id place : ℕ) (ss : List Setting) (s : Setting) → settings_from id place (ss ++ s ∷ []) ≡ settings_from id place ss ++ row_at id (length ss + place) s ∷ []
settings_push id place [] s = let e : place ≡ 0 + place = omega arith in ap (λ n. row_at id n s ∷ []) e
settings_push id place (t ∷ ss) s =
    let e : length ss + (place + 1) ≡ length (t ∷ ss) + place = omega arith in
    ap (λ rows. row_at id place t ∷ rows) (settings_push id (place + 1) ss s) ∙ ap (λ n. row_at id place t ∷ (settings_from id (place + 1) ss ++ row_at id n s ∷ [])) e

unset : (id : ℕ) (s : Setting) (hs : List History) → AllByRecursion (λ h. (h.entry.id == id) ≡ false) hs → map (with_setting id s) hs ≡ hs
unset id s [] all = refl
unset id s (h ∷ hs) all = rw (all.0, unset id s hs all.1) refl

pub found_first : (b : Bool) (h g : History) (rest : Option History) → b ≡ true → (if b then Some h else rest) ≡ Some g → h ≡ g
found_first true h g rest e found = cc found
found_first false h g rest e found = absurd (cc e)

pub found_later : (b : Bool) (h g : History) (rest : Option History) → b ≡ false → (if b then Some h else rest) ≡ Some g → rest ≡ Some g
found_later true h g rest e found = absurd (cc e)
found_later false h g rest e found = found

set_here : (id : ℕ) (s : Setting) (h : History) (hs : List History) → (h.entry.id == id) ≡ true → AllByRecursion (λ g. (g.entry.id == id) ≡ false) hs
    → IsPermutation (flat_map settings_in (record h { settings = h.settings ++ s ∷ [] } ∷ map (with_setting id s) hs)) (row_at id (length h.settings + 1) s ∷ flat_map settings_in (h ∷ hs))
set_here id s h hs here others =
    IsPermutation-trans _ _ _ (IsPermutation-same _ _ (
    ap (λ gs. settings_from h.entry.id 1 (h.settings ++ s ∷ []) ++ flat_map settings_in gs) (unset id s hs others)
    ∙ ap (λ rows. rows ++ flat_map settings_in hs) (settings_push h.entry.id 1 h.settings s)
    ∙ ap (λ i. (settings_in h ++ row_at i (length h.settings + 1) s ∷ []) ++ flat_map settings_in hs) (eqb-true h.entry.id id here)
    ∙ append_assoc (settings_in h) (row_at id (length h.settings + 1) s ∷ []) (flat_map settings_in hs)))
    (IsPermutation-middle (settings_in h) (row_at id (length h.settings + 1) s) (flat_map settings_in hs))

set_in : (n id : ℕ) (s : Setting) (hs : List History) (g : History) → AreIdsFrom n hs → find (λ h. h.entry.id == id) hs ≡ Some g
    → IsPermutation (flat_map settings_in (map (with_setting id s) hs)) (row_at id (length g.settings + 1) s ∷ flat_map settings_in hs)
set_in n id s [] g ids found = absurd (cc found)
set_in n id s (h ∷ hs) g ids found =
    elim (eqb h.entry.id id) as (λ b. eqb h.entry.id id ≡ b → IsPermutation (flat_map settings_in ((if b then record h { settings = h.settings ++ s ∷ [] } else h) ∷ map (with_setting id s) hs)) (row_at id (length g.settings + 1) s ∷ flat_map settings_in (h ∷ hs))) [
      | true ↦ λ here.
          let less : id < n + 1 = omega (arith, ids.0, eqb-true h.entry.id id here) in
          subst (λ (x : History). IsPermutation (flat_map settings_in (record h { settings = h.settings ++ s ∷ [] } ∷ map (with_setting id s) hs)) (row_at id (length x.settings + 1) s ∷ flat_map settings_in (h ∷ hs)))
          (found_first (eqb h.entry.id id) h g (find (λ x. x.entry.id == id) hs) here found)
          (set_here id s h hs here (other_ids (n + 1) id hs less ids.1))
      | false ↦ λ other.
          IsPermutation-trans _ _ _ (IsPermutation-append_right (settings_in h) _ _ (set_in (n + 1) id s hs g ids.1 (found_later (eqb h.entry.id id) h g (find (λ x. x.entry.id == id) hs) other found)))
          (IsPermutation-middle (settings_in h) (row_at id (length g.settings + 1) s) (flat_map settings_in hs))
    ] refl

-- ---- how many there are

count_of : (v : Vault) (id : ℕ) (g : History) → history_of v id ≡ Some g → count_of_settings (setting_of v id) ≡ length g.settings
count_of v id g found = ap (λ (o : Option History). count_of_settings (option_and_then (λ h. last_setting h.settings) o)) found ∙ setting_count g.settings

-- ---- what a setting doesn't touch

entry_kept : (id : ℕ) (s : Setting) (h : History) → entry_row (with_setting id s h).entry ≡ entry_row h.entry
entry_kept id s h = elim (eqb h.entry.id id) as (λ b. entry_row (if b then record h { settings = h.settings ++ s ∷ [] } else h).entry ≡ entry_row h.entry) [ true ↦ refl | false ↦ refl ]

content_kept : (id : ℕ) (s : Setting) (h : History) → contents_in (with_setting id s h) ≡ contents_in h
content_kept id s h = elim (eqb h.entry.id id) as (λ b. contents_in (if b then record h { settings = h.settings ++ s ∷ [] } else h) ≡ contents_in h) [ true ↦ refl | false ↦ refl ]

external_kept : (id : ℕ) (s : Setting) (h : History) → external_in (with_setting id s h) ≡ external_in h
external_kept id s h = elim (eqb h.entry.id id) as (λ b. external_in (if b then record h { settings = h.settings ++ s ∷ [] } else h) ≡ external_in h) [ true ↦ refl | false ↦ refl ]

-- the rows of external, where each history has those that it had
pub external_unread : (n : SchemaVersion) (f : History → History) → ((h : History) → external_in (f h) ≡ external_in h) → (hs : List History) → external_rows_of n (map f hs) ≡ external_rows_of n hs
external_unread First f same hs = refl
external_unread Second f same hs = refl
external_unread Third f same hs = refl
external_unread Fourth f same hs = ap (map external_row) (flat_map_unread external_in f same hs)

tenures_kept : (id : ℕ) (s : Setting) (h : History) → tenures_in (with_setting id s h) ≡ tenures_in h
tenures_kept id s h = elim (eqb h.entry.id id) as (λ b. tenures_in (if b then record h { settings = h.settings ++ s ∷ [] } else h) ≡ tenures_in h) [ true ↦ refl | false ↦ refl ]

items_kept : (v : Vault) (t id : ℕ) (s : Setting) (d : List ℕ) → items_of (changed v t (AddSetting id s)) d ≡ items_of v d
items_kept v t id s d =
    items_mapped d (with_setting id s) v.histories
    (all_of (λ h. items_by d (shares_of (with_setting id s h)) ≡ items_by d (shares_of h))
    (λ h. elim (eqb h.entry.id id) as (λ b. items_by d (shares_of (if b then record h { settings = h.settings ++ s ∷ [] } else h)) ≡ items_by d (shares_of h)) [ true ↦ refl | false ↦ refl ]) v.histories)

pub next_kept : (schema t moves : ℕ) (f : History → History) (hs : List History)
    → meta_row (record { schema = schema; last = t; next = length (map f hs) + 1; moves = moves }) ≡ meta_row (record { schema = schema; last = t; next = length hs + 1; moves = moves })
next_kept schema t moves f hs = ap (λ n. meta_row (record { schema = schema; last = t; next = n + 1; moves = moves })) (length-map hs f)

-- ---- the change

settings_added : (v : Vault) (t id : ℕ) (s : Setting) → Sound v → IsNextSetting v t id s
    → IsPermutation (map setting_row (flat_map settings_in (map (with_setting id s) v.histories))) (setting_row (row_at id (count_of_settings (setting_of v id) + 1) s) ∷ map setting_row (flat_map settings_in v.histories))
settings_added v t id s sound is =
    let found = found_history (history_of v id) is.entry is.there in
    let g = found.0 in
    subst (λ n. IsPermutation (map setting_row (flat_map settings_in (map (with_setting id s) v.histories))) (setting_row (row_at id (n + 1) s) ∷ map setting_row (flat_map settings_in v.histories)))
    (sym (count_of v id g found.1))
    (IsPermutation-map setting_row _ _ (set_in 1 id s v.histories g sound.ids found.1))

pub setting_added : (v : Vault) (t id : ℕ) (s : Setting) → Sound v → IsNextSetting v t id s → AreSameBesideHeads (rows_of (changed v t (AddSetting id s))) (edit_of v t (AddSetting id s) (rows_of v))
setting_added v t id s sound is table.Meta beside = IsPermutation-same _ _ (ap (λ row. row ∷ []) (next_kept (number_of (edition_of v.external)) t v.moves (with_setting id s) v.histories))
setting_added v t id s sound is table.Entries beside = IsPermutation-same _ _ (map_unread (λ h. entry_row h.entry) (with_setting id s) (entry_kept id s) v.histories)
setting_added v t id s sound is table.Contents beside = IsPermutation-same _ _ (ap (map content_row) (flat_map_unread contents_in (with_setting id s) (content_kept id s) v.histories))
setting_added v t id s sound is table.External beside = IsPermutation-same _ _ (external_unread (edition_of v.external) (with_setting id s) (external_kept id s) v.histories)
setting_added v t id s sound is table.Settings beside = settings_added v t id s sound is
setting_added v t id s sound is table.Tenures beside = IsPermutation-same _ _ (ap (map tenure_row) (flat_map_unread tenures_in (with_setting id s) (tenures_kept id s) v.histories))
setting_added v t id s sound is table.Departments beside = IsPermutation-same _ _ (sums_by_items v (changed v t (AddSetting id s)) (items_kept v t id s))
setting_added v t id s sound is table.Heads beside = absurd (cc beside)
setting_added v t id s sound is _ beside = IsPermutation-refl _
