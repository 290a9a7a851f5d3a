-- The last setting of a version is the one at the greatest place.
use Rattle.std.proofs.Common.{◌≡◌, ℕ, ◌+◌, ◌<◌, ◌==◌, ◌&&◌, pos, List, [], ◌∷◌, length, map, filter, flat_map, reverse, take, Bool, true, false, Option, None, Some, option_to_list, Less, refl, sym, ap, subst, ◌∙◌, arith}
use Rattle.std.specs.Prelude.{unwrap_or, option_map, option_and_then}
use Rattle.std.specs.List.{AllByRecursion}
use Rattle.std.proofs.lemmas.Bool.Decides.{nat_tests}
use Rattle.std.proofs.lemmas.List.Sorted.{IsPermutation-reverse, IsPermutation-sym, IsPermutation-trans}
use Rattle.sqlite_trees.specs.Tree.{IsAscending}
use Rattle.sqlite_keyed.proofs.ListLemmas.{map-map, ascending-map, ascending_weaker}
use Rattle.sqlite_value.specs.declared.value.Value.TheVariants.{Int}
use Rattle.sqlite_value.specs.declared.keys.Collation.TheVariants.{Binary}
use Rattle.sqlite_value.specs.Order.{Row, column}
use Rattle.sqlite_sql.specs.declared.ops.BinaryOp.TheVariants.{Compare}
use Rattle.sqlite_sql.specs.declared.ops.CompareOp.TheVariants.{Eq}
use Rattle.sqlite_sql.specs.Ops.{binary, is_true}
use Rattle.sqlite_sql.specs.Term.{lit}
use Rattle.sqlite_sql.specs.Query.{Query, Output, output, output_cmp}
use Rattle.vault_audit_model.specs.Tables.{settings_tree}
use Rattle.vault_core_model.specs.declared.records.History.{History}
use Rattle.vault_core_model.specs.declared.records.LastSetting.{LastSetting}
use Rattle.vault_core_model.specs.declared.records.Setting.{Setting}
use Rattle.vault_core_model.specs.Reads.{last_setting, setting_of, settings_of}
use Rattle.vault_core_model.specs.Sound.{AreIdsFrom}
use Rattle.vault_core_model.specs.Vault.{Vault, history_of, last_lock}
use Rattle.vault_audit_model.specs.declared.rows.SettingRow.{SettingRow}
use Rattle.vault_audit_model.specs.Rows.{setting_row, setting_columns}
use Rattle.vault_audit_model.specs.Spells.{settings_from, settings_in}
use Rattle.vault_audit_model.specs.Values.{number}
use Rattle.vault_store_reads.specs.Queries.{FindsRows}
use Rattle.vault_store_model.specs.Scans.{passes}
use Rattle.vault_store_reads.specs.Shown.{last_row}
use Rattle.sqlite_tied.proofs.RuleLemmas.{and_true}
use Rattle.vault_store_reads.proofs.OrderedListLemmas.{falls, map-reverse, last, first_reversed, last-map, part_of, in_one_part, always}
use Rattle.vault_store_reads.proofs.SelectLemmas.{select_of, of_records, answered}
use Rattle.vault_store_reads.proofs.OrderedTextLemmas.{setting_text, setting_tests, setting_shown, setting_order, setting_is, settings_text, settings_shown, settings_order, settings_is, no_limit}
use Rattle.vault_audit_model.proofs.ValueLemmas.{same_number}
use Rattle.vault_store_reads.proofs.ValueLemmas.{number_less}

-- ---- ids

above : (least next : ℕ) (hs : List History) → least < next → AreIdsFrom next hs → AllByRecursion (λ h. least < h.entry.id) hs
above least next [] low ids = tt
above least next (h ∷ hs) low ids = (omega (arith, low, ids.0), above least (next + 1) hs (omega (arith, low)) ids.1)

pub ids_rise : (next : ℕ) (hs : List History) → AreIdsFrom next hs → IsAscending (λ g h. g.entry.id < h.entry.id) hs
ids_rise next [] ids = tt
ids_rise next (h ∷ hs) ids = (above h.entry.id (next + 1) hs (omega (arith, ids.0)) ids.1, ids_rise (next + 1) hs ids.1)

other_id : (id a b : ℕ) → a < b → (a == id) ≡ true → (b == id) ≡ false
other_id id a b low same = grind (arith, nat_tests)

pub ids_apart : (id : ℕ) (hs : List History) → AreIdsFrom 1 hs → IsAscending (λ g h. (g.entry.id == id) ≡ true → (h.entry.id == id) ≡ false) hs
ids_apart id hs ids = ascending_weaker (λ g h. g.entry.id < h.entry.id) (λ g h. (g.entry.id == id) ≡ true → (h.entry.id == id) ≡ false) (λ g h low same. other_id id g.entry.id h.entry.id low same) hs (ids_rise 1 hs ids)

-- ---- places

after : (id place least : ℕ) (ss : List Setting) → least < place → AllByRecursion (λ s. least < s.place) (settings_from id place ss)
after id place least [] low = tt
after id place least (s ∷ ss) low = (low, after id (place + 1) least ss (omega (arith, low)))

places_rise : (id place : ℕ) (ss : List Setting) → IsAscending (λ s t. s.place < t.place) (settings_from id place ss)
places_rise id place [] = tt
places_rise id place (s ∷ ss) = (after id (place + 1) place ss (omega arith), places_rise id (place + 1) ss)

all_of : (id place : ℕ) (ss : List Setting) (n : ℕ) → AllByRecursion (λ s. (s.id == n) ≡ (id == n)) (settings_from id place ss)
all_of id place [] n = tt
all_of id place (s ∷ ss) n = (refl, all_of id (place + 1) ss n)

-- what the row of a setting says of the last one
abbrev stated : SettingRow → LastSetting
stated s = record { lock = s.setting.lock; count = s.place }

last_stated : (id place : ℕ) (s : Setting) (ss : List Setting) → option_map stated (last (settings_from id place (s ∷ ss))) ≡ Some (record { lock = last_lock (s ∷ ss); count = place + length ss })
last_stated id place s [] = ap (λ n. Some (record { lock = s.lock; count = n })) (omega arith)
last_stated id place s (r ∷ rs) = last_stated id (place + 1) r rs ∙ ap (λ n. Some (record { lock = last_lock (r ∷ rs); count = n })) (omega arith)

its_last : (id : ℕ) (ss : List Setting) → option_map stated (last (settings_from id 1 ss)) ≡ last_setting ss
its_last id [] = refl
its_last id (s ∷ ss) = last_stated id 1 s ss ∙ ap (λ n. Some (record { lock = last_lock (s ∷ ss); count = n })) (omega arith)

last_of_part : (o : Option History) → option_map stated (last (part_of settings_in o)) ≡ option_and_then (λ h. last_setting h.settings) o
last_of_part None = refl
last_of_part (Some h) = its_last h.entry.id h.settings

part_rises : (o : Option History) → IsAscending (λ s t. s.place < t.place) (part_of settings_in o)
part_rises None = tt
part_rises (Some h) = places_rise h.entry.id 1 h.settings

-- ---- the answer

abbrev test : ℕ → Row → Bool
test id c = is_true (binary (Compare Eq Binary) (column c 0) (number id)) && true

abbrev out : Row → Output
out c = (column c 1 ∷ [], column c 1 ∷ column c 4 ∷ column c 5 ∷ column c 6 ∷ [])

abbrev pub query : Query
query = select_of settings_tree setting_tests setting_shown setting_order (lit (Int (pos 1)))

abbrev outs : List SettingRow → List Output
outs ss = map (λ s. out (setting_row s)) ss

outs_fall : (ss : List SettingRow) → IsAscending (λ s t. s.place < t.place) ss → IsAscending (λ a b. output_cmp query a b ≡ Less) (reverse (outs ss))
outs_fall ss up =
    let R : Output → Output → Type 0 = λ a b. output_cmp query b a ≡ Less in
    falls R (outs ss) (ascending-map R (λ s. out (setting_row s)) ss (ascending_weaker (λ s t. s.place < t.place) (λ s t. R (out (setting_row s)) (out (setting_row t))) (λ s t low. number_less s.place t.place low) ss up))

first_out : (ss : List SettingRow) → take 1 (map (λ (o : Output). o.1) (reverse (outs ss))) ≡ map last_row (option_to_list (option_map stated (last ss)))
first_out ss =
    ap (take 1) (map-reverse (λ (o : Output). o.1) (outs ss) ∙ ap reverse (map-map (λ (o : Output). o.1) (λ s. out (setting_row s)) ss))
    ∙ first_reversed (map (λ s. last_row (stated s)) ss) ∙ ap option_to_list (last-map (λ s. last_row (stated s)) ss) ∙ twice (last ss)
  where
    twice : (o : Option SettingRow) → option_to_list (option_map (λ s. last_row (stated s)) o) ≡ map last_row (option_to_list (option_map stated o))
    twice None = refl
    twice (Some s) = refl

pub found_setting : (v : Vault) (id : ℕ) (rows : List Row) → FindsRows v setting_text (number id ∷ []) rows → rows ≡ map last_row (option_to_list (setting_of v id))
found_setting v id rows (db, sound, answers) =
    let all = flat_map settings_in v.histories in
    let mine = filter (λ s. s.id == id) all in
    let its : mine ≡ part_of settings_in (history_of v id) =
    in_one_part (λ h. h.entry.id == id) settings_in (λ s. s.id == id) (λ h. all_of h.entry.id 1 h.settings id) v.histories (ids_apart id v.histories sound.spells.kept.sound.ids) in
    let params : Row = number id ∷ [] in
    let are = of_records setting_row setting_columns (test id) out (passes setting_tests params) (λ r. output query (params ∷ r ∷ [])) (λ r. refl) (λ r. refl) (λ s. s.id == id) all (db.trees settings_tree) sound.spells.settings
    (always (λ s. test id (setting_row s) ≡ (s.id == id)) (λ s. and_true _ ∙ same_number s.id id) all) in
    let same = IsPermutation-trans _ _ _ (IsPermutation-sym _ _ (IsPermutation-reverse (outs mine))) are in
    let rise = subst (IsAscending (λ s t. s.place < t.place)) (sym its) (part_rises (history_of v id)) in
    answered settings_tree setting_tests setting_shown setting_order (lit (Int (pos 1))) db params rows (answers query (setting_is v.external)) (reverse (outs mine)) same (outs_fall mine rise)
    ∙ first_out mine ∙ ap (λ ss. map last_row (option_to_list (option_map stated (last ss)))) its ∙ ap (λ o. map last_row (option_to_list o)) (last_of_part (history_of v id))

-- ---- all of them

abbrev setting_in : SettingRow → Setting
setting_in x = x.setting

same_all : (id place : ℕ) (ss : List Setting) → map setting_in (settings_from id place ss) ≡ ss
same_all id place [] = refl
same_all id place (s ∷ ss) = ap (λ l. s ∷ l) (same_all id (place + 1) ss)

stated_part : (o : Option History) → map setting_in (part_of settings_in o) ≡ unwrap_or (option_map (λ h. h.settings) o) []
stated_part None = refl
stated_part (Some h) = same_all h.entry.id 1 h.settings

pub stated_settings : (v : Vault) (id : ℕ) → map setting_in (part_of settings_in (history_of v id)) ≡ settings_of v id
stated_settings v id = stated_part (history_of v id)

abbrev out_all : Row → Output
out_all c = (column c 1 ∷ [], column c 0 ∷ column c 1 ∷ column c 2 ∷ column c 3 ∷ column c 4 ∷ column c 5 ∷ column c 6 ∷ column c 7 ∷ [])

abbrev pub all_query : Query
all_query = select_of settings_tree setting_tests settings_shown settings_order no_limit

abbrev outs_all : List SettingRow → List Output
outs_all ss = map (λ s. out_all (setting_row s)) ss

outs_rise : (ss : List SettingRow) → IsAscending (λ s t. s.place < t.place) ss → IsAscending (λ a b. output_cmp all_query a b ≡ Less) (outs_all ss)
outs_rise ss up =
    let R : Output → Output → Type 0 = λ a b. output_cmp all_query a b ≡ Less in
    ascending-map R (λ s. out_all (setting_row s)) ss (ascending_weaker (λ s t. s.place < t.place) (λ s t. R (out_all (setting_row s)) (out_all (setting_row t))) (λ s t low. number_less s.place t.place low) ss up)

pub found_settings : (v : Vault) (id : ℕ) (rows : List Row) → FindsRows v settings_text (number id ∷ []) rows → rows ≡ map setting_row (part_of settings_in (history_of v id))
found_settings v id rows (db, sound, answers) =
    let all = flat_map settings_in v.histories in
    let mine = filter (λ s. s.id == id) all in
    let its : mine ≡ part_of settings_in (history_of v id) =
    in_one_part (λ h. h.entry.id == id) settings_in (λ s. s.id == id) (λ h. all_of h.entry.id 1 h.settings id) v.histories (ids_apart id v.histories sound.spells.kept.sound.ids) in
    let params : Row = number id ∷ [] in
    let are = of_records setting_row setting_columns (test id) out_all (passes setting_tests params) (λ r. output all_query (params ∷ r ∷ [])) (λ r. refl) (λ r. refl) (λ s. s.id == id) all (db.trees settings_tree) sound.spells.settings
    (always (λ s. test id (setting_row s) ≡ (s.id == id)) (λ s. and_true _ ∙ same_number s.id id) all) in
    let rise = subst (IsAscending (λ s t. s.place < t.place)) (sym its) (part_rises (history_of v id)) in
    answered settings_tree setting_tests settings_shown settings_order no_limit db params rows (answers all_query (settings_is v.external)) (outs_all mine) are (outs_rise mine rise)
    ∙ map-map (λ (o : Output). o.1) (λ s. out_all (setting_row s)) mine ∙ ap (map setting_row) its
