-- The rows of tenures that a bucket's held versions get.
use Rattle.std.proofs.Common.{◌≡◌, ℕ, List, [], ◌∷◌, ◌++◌, map, filter, flat_map, cond, not, Bool, true, false, IsPermutation, refl, sym, ap, ◌∙◌, append_assoc}
use Rattle.std.specs.Prelude.{◌&&◌, if◌then◌else◌, is_none}
use Rattle.std.specs.Str.{bytes_eq}
use Rattle.std.proofs.lemmas.List.{map-append}
use Rattle.std.proofs.lemmas.List.Sorted.{IsPermutation-refl, IsPermutation-cons, IsPermutation-trans, IsPermutation-middle, IsPermutation-append_right}
use Rattle.sqlite_trees.proofs.ListLemmas.{IsPermutation-same}
use Rattle.sqlite_value.specs.declared.value.Value.{Value}
use Rattle.sqlite_value.specs.declared.value.Value.TheVariants.{Text}
use Rattle.sqlite_value.specs.declared.keys.Collation.TheVariants.{Binary}
use Rattle.sqlite_value.specs.Order.{Row}
use Rattle.sqlite_sql.specs.declared.ops.BinaryOp.TheVariants.{Compare}
use Rattle.sqlite_sql.specs.declared.ops.CompareOp.TheVariants.{Eq}
use Rattle.sqlite_sql.specs.Ops.{binary, is_true}
use Rattle.vault_core_model.specs.declared.records.Entry.{Entry}
use Rattle.vault_core_model.specs.declared.records.History.{History}
use Rattle.vault_core_model.specs.declared.records.Tenure.{Tenure}
use Rattle.vault_core_model.specs.Change.{tenured_by, tenured_if}
use Rattle.vault_core_model.specs.Places.{is_held_version_in}
use Rattle.vault_audit_model.specs.Rows.{entry_row, tenure_row}
use Rattle.vault_audit_model.specs.Spells.{tenures_in, tenure_at}
use Rattle.vault_audit_model.specs.Values.{number, flag}
use Rattle.vault_audit_model.proofs.ValueLemmas.{same_text, same_number, none_removed, three, cast_int}
use Rattle.vault_store_model.specs.Copies.{is_held_version, moved_row}
use Rattle.vault_store_model.proofs.ListLemmas.{second_first}

-- ---- the test, as SQL compares

marker_is : (marker : Bool) → is_true (binary (Compare Eq Binary) (flag marker) (number 0)) ≡ not marker
marker_is true = same_number 1 0
marker_is false = same_number 0 0

second_test : (a b c : Bool) → (a && (b && c)) ≡ (b && (a && c))
second_test true b c = refl
second_test false true c = refl
second_test false false c = refl

-- the row of an entry passes where it is a held version of that bucket
pub test_is : (name : List ℕ) (e : Entry) → is_held_version name (entry_row e) ≡ is_held_version_in name e
test_is name e =
    three _ _ _ _ _ _ (same_text e.bucket name) (marker_is e.marker) (none_removed e.removal)
    ∙ second_test (bytes_eq e.bucket name) (not e.marker) (is_none e.removal)

-- ---- the rows that are put in

-- the number, the department and the moment of a tenure, and the version's id
row_made : (t : Tenure) (e : Entry) → moved_row t.number t.dept t.from (entry_row e) ≡ tenure_row (tenure_at e.id t)
row_made t e = ap (λ (id : Value). id ∷ number t.number ∷ Text t.dept ∷ number t.from ∷ []) (cast_int _)

-- what a version has, and one more
stated : (t : Tenure) (h : History) → map tenure_row (tenures_in (tenured_by t h)) ≡ map tenure_row (tenures_in h) ++ tenure_row (tenure_at h.entry.id t) ∷ []
stated t h =
    ap (map tenure_row) (map-append (tenure_at h.entry.id) h.tenures (t ∷ []))
    ∙ map-append tenure_row (tenures_in h) (tenure_at h.entry.id t ∷ [])

-- where it passes, its row is one more in front
one_stated : (b : Bool) (t : Tenure) (h : History) (rest new old : List Row) → IsPermutation rest (new ++ old)
    → IsPermutation (map tenure_row (tenures_in (if b then tenured_by t h else h)) ++ rest)
    (cond b (tenure_row (tenure_at h.entry.id t) ∷ new) new ++ (map tenure_row (tenures_in h) ++ old))
one_stated false t h rest new old same =
    let own = map tenure_row (tenures_in h) in
    IsPermutation-trans _ _ _ (IsPermutation-append_right own _ _ same) (second_first own new old)
one_stated true t h rest new old same =
    let own = map tenure_row (tenures_in h) in
    let row = tenure_row (tenure_at h.entry.id t) in
    IsPermutation-trans _ _ _ (IsPermutation-append_right (map tenure_row (tenures_in (tenured_by t h))) _ _ same)
    (IsPermutation-trans _ _ _ (IsPermutation-same _ _ (ap (λ l. l ++ (new ++ old)) (stated t h) ∙ append_assoc own (row ∷ []) (new ++ old)))
    (IsPermutation-trans _ _ _ (IsPermutation-middle own row (new ++ old)) (IsPermutation-cons row _ _ (second_first own new old))))

-- one row that is looked at
copied_one : (test : Row → Bool) (made : Row → Row) (row : Row) (rows : List Row) → map made (filter test (row ∷ rows)) ≡ cond (test row) (made row ∷ map made (filter test rows)) (map made (filter test rows))
copied_one test made row rows =
    elim (test row) as (λ b. map made (cond b (row ∷ filter test rows) (filter test rows)) ≡ cond b (made row ∷ map made (filter test rows)) (map made (filter test rows)))
    [ true ↦ refl | false ↦ refl ]

-- the tenures of histories of which those get one more that are held versions of a bucket
pub tenures_added : (name : List ℕ) (t : Tenure) (hs : List History)
    → IsPermutation (map tenure_row (flat_map tenures_in (map (tenured_if name t) hs)))
    (map (moved_row t.number t.dept t.from) (filter (is_held_version name) (map (λ h. entry_row h.entry) hs)) ++ map tenure_row (flat_map tenures_in hs))
tenures_added name t [] = IsPermutation-refl []
tenures_added name t (h ∷ hs) =
    let made = moved_row t.number t.dept t.from in
    let new = map made (filter (is_held_version name) (map (λ (g : History). entry_row g.entry) hs)) in
    let old = map tenure_row (flat_map tenures_in hs) in
    let rest = map tenure_row (flat_map tenures_in (map (tenured_if name t) hs)) in
    let b = is_held_version_in name h.entry in
    let first : cond b (tenure_row (tenure_at h.entry.id t) ∷ new) new ≡ map made (filter (is_held_version name) (map (λ (g : History). entry_row g.entry) (h ∷ hs))) =
    sym (
    copied_one (is_held_version name) made (entry_row h.entry) (map (λ (g : History). entry_row g.entry) hs)
    ∙ ap (λ (c : Bool). cond c (made (entry_row h.entry) ∷ new) new) (test_is name h.entry)
    ∙ ap (λ (row : Row). cond b (row ∷ new) new) (row_made t h.entry)
    ) in
    IsPermutation-trans _ _ _ (IsPermutation-same _ _ (map-append tenure_row (tenures_in (tenured_if name t h)) (flat_map tenures_in (map (tenured_if name t) hs))))
    (IsPermutation-trans _ _ _ (one_stated b t h rest new old (tenures_added name t hs))
    (IsPermutation-same _ _ (
    ap (λ l. l ++ (map tenure_row (tenures_in h) ++ old)) first
    ∙ ap (λ l. map made (filter (is_held_version name) (map (λ (g : History). entry_row g.entry) (h ∷ hs))) ++ l) (sym (map-append tenure_row (tenures_in h) (flat_map tenures_in hs))))))
