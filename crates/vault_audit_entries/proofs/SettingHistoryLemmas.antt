-- Settings at their places are those of histories, and those of histories are at their places.
use Rattle.std.proofs.Common.{◌≡◌, ◌≤◌, ◌<◌, ◌+◌, ◌||◌, ◌==◌, ℕ, List, [], ◌∷◌, ◌++◌, length, map, flat_map, Bool, true, false, not, None, refl, sym, ap, ap₂, subst, ◌∙◌, IsTrue, arith}
use Rattle.std.specs.List.{AllByRecursion, list_any}
use Rattle.std.proofs.lemmas.Bool.Decides.{nat_tests}
use Rattle.vault_base.specs.Limits.{most_settings}
use Rattle.vault_base.specs.Name.{is_version_id}
use Rattle.vault_core_model.specs.declared.records.Entry.{Entry}
use Rattle.vault_core_model.specs.declared.records.History.{History}
use Rattle.vault_core_model.specs.declared.records.Setting.{Setting}
use Rattle.vault_audit_model.specs.declared.rows.SettingRow.{SettingRow}
use Rattle.vault_audit_model.specs.Relations.{AreNumbered, HasSettingsAs, HasSettings}
use Rattle.vault_audit_model.specs.Spells.{settings_from, settings_in}
use Rattle.vault_audit_entries.specs.declared.settings.placed.SettingPass.{SettingPass}
use Rattle.vault_audit_entries.specs.SettingPlaces.{IsSetAs, IsOfOne}
use Rattle.vault_audit_entries.proofs.SettingRowLemmas.{Fit}
use Rattle.vault_audit_entries.proofs.SettingPlaceLemmas.{at_place, enter, cut, later_ids, has_id, none_later, none_in, is_some_of, any_in, has_append, first_fits}

abbrev entries_of : List History → List Entry
entries_of = map (λ h. h.entry)

-- ---- from histories

count : (marker : Bool) (h : History) → HasSettingsAs marker h → length h.settings ≤ most_settings
count true h is = rw is (omega arith)
count false h is = is.1

-- the settings of histories come one after the other
pub placed : (external : Bool) (n low : ℕ) (p : SettingPass) (es : List Entry) (hs : List History) → p.id < n → AreNumbered external n low es → entries_of hs ≡ es → AllByRecursion HasSettings hs → Fit p (flat_map settings_in hs)
placed external n low p es [] below are same all = tt
placed external n low p [] (h ∷ hs) below are same all = absurd cc
placed external n low p (e ∷ es) (h ∷ hs) below are same all =
    let first : h.entry ≡ e = cc in
    let rest : entries_of hs ≡ es = cc in
    let id : h.entry.id ≡ n = ap (λ (x : Entry). x.id) first ∙ are.0.1.0 in
    let is : IsTrue (is_version_id h.entry.id) = subst (λ (x : Entry). IsTrue (is_version_id x.id)) (sym first) are.0.0.id in
    first_fits p h.entry.id h.settings (flat_map settings_in hs) (omega (arith, below, id)) is (count h.entry.marker h all.0.0) all.0.1
    (λ k. placed external (n + 1) e.admitted (at_place h.entry.id k) es hs (omega (arith, id)) are.1 rest all.1) (placed external (n + 1) e.admitted p es hs (omega (arith, below)) are.1 rest all.1)

pub higher : (external : Bool) (n low : ℕ) (es : List Entry) → AreNumbered external n low es → AllByRecursion (λ e. n ≤ e.id) es
higher external n low [] are = tt
higher external n low (e ∷ es) are = (omega (arith, are.0.1.0), lower es (higher external (n + 1) e.admitted es are.1))
  where
    lower : (xs : List Entry) → AllByRecursion (λ x. n + 1 ≤ x.id) xs → AllByRecursion (λ x. n ≤ x.id) xs
    lower [] all = tt
    lower (x ∷ xs) all = (omega (arith, all.0), lower xs all.1)

present : (marker : Bool) (h : History) → HasSettingsAs marker h → is_some_of h.settings ≡ not marker
present true h is = rw is refl
present false h is = some h.settings is.0
  where
    some : (ss : List Setting) → 1 ≤ length ss → is_some_of ss ≡ true
    some [] low = absurd (omega (arith, low))
    some (s ∷ ss) low = refl

-- the settings of later histories have later ids
later : (external : Bool) (i n low : ℕ) (es : List Entry) (hs : List History) → i < n → AreNumbered external n low es → entries_of hs ≡ es → has_id i (flat_map settings_in hs) ≡ false
later external i n low es [] below are same = refl
later external i n low [] (h ∷ hs) below are same = absurd cc
later external i n low (e ∷ es) (h ∷ hs) below are same =
    let first : h.entry ≡ e = cc in
    let id : h.entry.id ≡ n = ap (λ (x : Entry). x.id) first ∙ are.0.1.0 in
    has_append i (settings_in h) (flat_map settings_in hs)
    ∙ rw (after h.entry.id h.settings (omega (arith, below, id)) 1) (later external i (n + 1) e.admitted es hs (omega (arith, below)) are.1 (cc))
  where
    after : (id : ℕ) (ss : List Setting) → i < id → (place : ℕ) → has_id i (settings_from id place ss) ≡ false
    after id [] less place = refl
    after id (s ∷ ss) less place = let no : (id == i) ≡ false = grind (arith, nat_tests) in rw no (after id ss less (place + 1))

or_with : (a b c : Bool) → a ≡ c → b ≡ false → (a || b) ≡ c
or_with true b c p q = p
or_with false b c p q = q ∙ p

set_more : (run rest : List SettingRow) (es : List Entry) → AllByRecursion (λ e. has_id e.id run ≡ false) es → AllByRecursion (IsSetAs rest) es → AllByRecursion (IsSetAs (run ++ rest)) es
set_more run rest [] none all = tt
set_more run rest (e ∷ es) none all = (has_append e.id run rest ∙ rw none.0 all.0, set_more run rest es none.1 all.1)

set_less : (run rest : List SettingRow) (es : List Entry) → AllByRecursion (λ e. has_id e.id run ≡ false) es → AllByRecursion (IsSetAs (run ++ rest)) es → AllByRecursion (IsSetAs rest) es
set_less run rest [] none all = tt
set_less run rest (e ∷ es) none all = (sym (has_append e.id run rest ∙ rw none.0 refl) ∙ all.0, set_less run rest es none.1 all.1)

-- none of those of an id is of a later entry
not_theirs : (id place : ℕ) (ss : List Setting) (es : List Entry) → AllByRecursion (λ e. id + 1 ≤ e.id) es → AllByRecursion (λ e. has_id e.id (settings_from id place ss) ≡ false) es
not_theirs id place ss [] all = tt
not_theirs id place ss (e ∷ es) all = (none_in e.id id place ss (omega (arith, all.0)), not_theirs id place ss es all.1)

pub all_set : (external : Bool) (n low : ℕ) (es : List Entry) (hs : List History) → AreNumbered external n low es → entries_of hs ≡ es → AllByRecursion HasSettings hs → AllByRecursion (IsSetAs (flat_map settings_in hs)) es
all_set external n low [] hs are same all = tt
all_set external n low (e ∷ es) [] are same all = absurd cc
all_set external n low (e ∷ es) (h ∷ hs) are same all =
    let first : h.entry ≡ e = cc in
    let rest : entries_of hs ≡ es = cc in
    let id : e.id ≡ n = are.0.1.0 in
    let run = settings_in h in
    let mine : has_id e.id run ≡ not e.marker = subst (λ (x : Entry). has_id x.id run ≡ not x.marker) first (any_in h.entry.id 1 h.settings ∙ present h.entry.marker h all.0.0) in
    let none = later external e.id (n + 1) e.admitted es hs (omega (arith, id)) are.1 rest in
    let others = higher external (n + 1) e.admitted es are.1 in
    let apart = not_theirs h.entry.id 1 h.settings es (subst (λ i. AllByRecursion (λ x. i + 1 ≤ x.id) es) (sym (ap (λ (x : Entry). x.id) first ∙ id)) others) in
    (has_append e.id run (flat_map settings_in hs) ∙ or_with _ _ _ mine none, set_more run (flat_map settings_in hs) es apart (all_set external (n + 1) e.admitted es hs are.1 rest all.1))

-- ---- to histories

settled : (marker : Bool) (e : Entry) (ss : List Setting) → is_some_of ss ≡ not marker → length ss ≤ most_settings → HasSettingsAs marker (record { entry = e; content = None; settings = ss; tenures = [] })
settled true e [] some most = refl
settled true e (s ∷ ss) some most = absurd cc
settled false e [] some most = absurd cc
settled false e (s ∷ ss) some most = (omega arith, most)

-- an id that some entry has is no greater than the last one
numbered_id : (external : Bool) (n low i : ℕ) (es : List Entry) → AreNumbered external n low es → list_any (λ e. e.id == i) es ≡ true → i < n + length es
numbered_id external n low i [] are h = absurd cc
numbered_id external n low i (e ∷ es) are h = here (e.id == i) refl h (numbered_id external (n + 1) e.admitted i es are.1)
  where
    here : (b : Bool) → (e.id == i) ≡ b → (b || list_any (λ x. x.id == i) es) ≡ true → (list_any (λ x. x.id == i) es ≡ true → i < n + 1 + length es) → i < n + length (e ∷ es)
    here true is _ _ = let same : e.id ≡ i = grind (arith, nat_tests) in omega (arith, same, are.0.1.0)
    here false is more next = let less = next more in omega (arith, less)

pub bounded : (external : Bool) (n low : ℕ) (es : List Entry) (xs : List SettingRow) → AreNumbered external n low es → AllByRecursion (IsOfOne es) xs → AllByRecursion (λ x. x.id < n + length es) xs
bounded external n low es [] are all = tt
bounded external n low es (x ∷ xs) are all = (numbered_id external n low x.id es are all.0, bounded external n low es xs are all.1)

after_run : (P : SettingRow → Type 0) (xs ys : List SettingRow) → AllByRecursion P (xs ++ ys) → AllByRecursion P ys
after_run P [] ys all = all
after_run P (x ∷ xs) ys all = after_run P xs ys all.1

shifted : (m n : ℕ) (xs : List SettingRow) → m ≡ n → AllByRecursion (λ x. x.id < m) xs → AllByRecursion (λ x. x.id < n) xs
shifted m n xs same all = subst (λ k. AllByRecursion (λ x. x.id < k) xs) same all

pub record Made (es : List Entry) (xs : List SettingRow) : Type 0 where
  pub histories : List History
  pub entries : entries_of histories ≡ es
  pub rows : flat_map settings_in histories ≡ xs
  pub have : AllByRecursion HasSettings histories

pub make : (external : Bool) (n low : ℕ) (es : List Entry) (xs : List SettingRow) → AreNumbered external (n + 1) low es → Fit (at_place n 0) xs → AllByRecursion (IsSetAs xs) es → AllByRecursion (λ x. x.id < (n + 1) + length es) xs → Made es xs
make external n low [] [] are fit set low_ids = record { histories = []; entries = refl; rows = refl; have = tt }
make external n low [] (x ∷ xs) are fit set low_ids = absurd (let up = (later_ids n (x ∷ xs) fit).0 in let down = low_ids.0 in omega (arith, up, down))
make external n low (e ∷ es) xs are fit set low_ids =
    let id : e.id ≡ n + 1 = are.0.1.0 in
    let part = cut (n + 1) 1 xs (omega arith) (enter n xs fit) in
    let run = settings_from (n + 1) 1 part.settings in
    let none = none_later (n + 1) part.rest (later_ids (n + 1) part.rest part.fit) in
    let here : has_id (n + 1) xs ≡ is_some_of part.settings = ap (has_id (n + 1)) part.whole ∙ has_append (n + 1) run part.rest ∙ or_with _ _ _ (any_in (n + 1) 1 part.settings) none in
    let some : is_some_of part.settings ≡ not e.marker = sym here ∙ sym (ap (λ i. has_id i xs) id) ∙ set.0 in
    let others = set_less run part.rest es (not_theirs (n + 1) 1 part.settings es (higher external (n + 1 + 1) e.admitted es are.1)) (subst (λ ys. AllByRecursion (IsSetAs ys) es) part.whole set.1) in
    let ids : AllByRecursion (λ x. x.id < (n + 1) + length (e ∷ es)) part.rest = after_run (λ x. x.id < (n + 1) + length (e ∷ es)) run part.rest (subst (AllByRecursion (λ x. x.id < (n + 1) + length (e ∷ es))) part.whole low_ids) in
    let later = make external (n + 1) e.admitted es part.rest are.1 part.fit others (shifted _ _ part.rest (omega arith) ids) in
    record {
      histories = record { entry = e; content = None; settings = part.settings; tenures = [] } ∷ later.histories;
      entries = ap (λ (ys : List Entry). e ∷ ys) later.entries;
      rows = ap₂ (λ (i : ℕ) (ys : List SettingRow). settings_from i 1 part.settings ++ ys) id later.rows ∙ sym part.whole;
      have = ((settled e.marker e part.settings some (omega (arith, part.count)), part.are), later.have);
    }
