-- What a bucket holds: the last tenure of each held version, in any order, with the version's size.
use Rattle.std.proofs.Common.{◌≡◌, inl, inr, ℕ, zero, suc, ◌==◌, ◌&&◌, min, eqb, ne_eqb, List, [], ◌∷◌, length, map, filter, find, flat_map, ◌++◌, cond, Bool, true, false, Option, None, Some, option_to_list, pos, IsPermutation, refl, sym, ap, subst, subst₂, ◌∙◌, arith}
use Rattle.std.specs.Prelude.{option_map, unwrap_or}
use Rattle.std.specs.List.{AllByRecursion, list_all}
use Rattle.std.proofs.lemmas.Bool.{cases_Bool}
use Rattle.std.proofs.lemmas.List.{length-map}
use Rattle.std.proofs.lemmas.List.Sorted.{IsPermutation-append, IsPermutation-map, IsPermutation-refl, IsPermutation-trans, length_permutation}
use Rattle.sqlite.specs.Effect.{Database}
use Rattle.sqlite_keyed.proofs.ListLemmas.{all_weaker, filter_same, flat_map-map, flat_map_same_on, IsPermutation-flat_map, map-flat_map, map-map, none_counted}
use Rattle.sqlite_sql.specs.Ops.{binary, is_true, unary}
use Rattle.sqlite_sql.specs.Program.{overlay}
use Rattle.sqlite_sql.specs.Query.{IsAnswer, Output, output}
use Rattle.sqlite_sql.specs.Term.{Env, holds}
use Rattle.sqlite_sql.specs.declared.ops.BinaryOp.TheVariants.{Compare, Is}
use Rattle.sqlite_sql.specs.declared.ops.CompareOp.TheVariants.{Eq, Lt}
use Rattle.sqlite_sql.specs.declared.ops.UnaryOp.TheVariants.{Not}
use Rattle.sqlite_trees.specs.Tree.{Trees}
use Rattle.sqlite_value.specs.Order.{Row, column}
use Rattle.sqlite_value.specs.declared.keys.Collation.TheVariants.{Binary}
use Rattle.sqlite_value.specs.declared.value.Value.TheVariants.{Int, Null, Text}
use Rattle.vault_audit_model.proofs.ValueLemmas.{same_number}
use Rattle.vault_audit_model.specs.Rows.{entry_columns, tenure_columns, tenure_row}
use Rattle.vault_audit_model.specs.Spells.{AreSound, tenures_in}
use Rattle.vault_audit_model.specs.Tables.{entries_tree, tenures_tree}
use Rattle.vault_audit_model.specs.Values.{number}
use Rattle.vault_audit_model.specs.declared.rows.TenureRow.{TenureRow}
use Rattle.vault_core_laws.proofs.Lists.{All-filter}
use Rattle.vault_core_model.specs.Places.{is_held_version_in}
use Rattle.vault_core_model.specs.Sound.{last_tenure}
use Rattle.vault_core_model.specs.Totals.{held_versions_in}
use Rattle.vault_core_model.specs.Vault.{Vault}
use Rattle.vault_core_model.specs.declared.records.History.{History}
use Rattle.vault_store_model.proofs.CopyLemmas.{test_is}
use Rattle.vault_store_model.proofs.ScanLemmas.{uncovered}
use Rattle.vault_store_model.specs.Copies.{is_held_version}
use Rattle.vault_store_reads.specs.Queries.{FindsRows}
use Rattle.vault_store_walks.specs.Sized.{sized_of, sized_row, sized_with}
use Rattle.vault_store_walks.proofs.LastLemmas.{comes_after, is_last_of, last_is}
use Rattle.vault_store_reads.proofs.OrderedEntryLemmas.{row_of}
use Rattle.vault_store_reads.proofs.OrderedListLemmas.{always, last}
use Rattle.vault_store_walks.proofs.WalkTexts.{later_tests, sized_is, sized_query, sized_tests, sized_text}
use Rattle.vault_store_reads.proofs.SelectLemmas.{of_records}
use Rattle.vault_store_reads.proofs.TenureLemmas.{stated_last, tenure_in}
use Rattle.vault_store_reads.proofs.TenureLemmas as tenures
use Rattle.vault_store_reads.proofs.ValueLemmas.{lower_number}
use Rattle.vault_store_reads.proofs.KeyLemmas.{two}
use Rattle.vault_core_laws.proofs.Newest.{finds_itself}

-- ---- lists

module _ {X Y : Type 0} (pass : X → Bool) where
  -- the rows that pass, each with those before it
  passing : (f : X → Y) (xs : List X) → flat_map (λ x. cond (pass x) (f x ∷ []) []) xs ≡ map f (filter pass xs)
  passing f [] = refl
  passing f (x ∷ xs) = elim (cases_Bool (pass x)) [
    | inl passed ↦ rw passed (ap (λ l. f x ∷ l) (passing f xs))
    | inr failed ↦ rw failed (passing f xs)
  ]

  parts_where : (f : X → List Y) (xs : List X) → flat_map (λ x. cond (pass x) (f x) []) xs ≡ flat_map f (filter pass xs)
  parts_where f [] = refl
  parts_where f (x ∷ xs) = elim (cases_Bool (pass x)) [
    | inl passed ↦ rw passed (ap (λ l. f x ++ l) (parts_where f xs))
    | inr failed ↦ rw failed (parts_where f xs)
  ]

as_many : {X Y : Type 0} (f : X → Y) (xs : List X) → length (map f xs) ≡ length xs
as_many f xs = simp length-map

none_kept : {X : Type 0} (xs : List X) → filter (λ x. false) xs ≡ []
none_kept [] = refl
none_kept (x ∷ xs) = none_kept xs

kept_if : {X Y : Type 0} (f : X → Y) (b : Bool) (p : X → Bool) (xs : List X) → map f (filter (λ x. b && p x) xs) ≡ cond b (map f (filter p xs)) []
kept_if f true p xs = refl
kept_if f false p xs = ap (map f) (none_kept xs)

each_permuted : {X Y : Type 0} (f g : X → List Y) (xs : List X) → AllByRecursion (λ x. IsPermutation (f x) (g x)) xs → IsPermutation (flat_map f xs) (flat_map g xs)
each_permuted f g [] all = IsPermutation-refl []
each_permuted f g (x ∷ xs) all = IsPermutation-append (f x) (g x) (flat_map f xs) (flat_map g xs) all.0 (each_permuted f g xs all.1)

-- ---- by the columns of an entry, a tenure and one after it

abbrev is_later : Row → Row → Bool
is_later d u = is_true (binary (Compare Eq Binary) (column u 1) (column d 0)) && (is_true (binary (Compare Lt Binary) (column d 1) (column u 2)) && true)

-- none is counted
abbrev is_none : ℕ → Bool
is_none n = is_true (unary Not (Int (pos (min 1 n))))

module _ (ts : List Row) where
  -- the tenure is of that entry, and none of the same version follows it
  abbrev ends : Row → Row → Bool
  ends c d = is_true (binary (Compare Eq Binary) (column d 0) (column c 0)) && (is_none (length (filter (is_later d) ts)) && true)

  abbrev of_entry : Row → List Row
  of_entry c = map (λ t. column c 4 ∷ column t 4 ∷ []) (filter (λ t. ends c (tenure_columns t)) ts)

  abbrev held_of : List ℕ → Row → List Row
  held_of bucket c = cond (is_held_version bucket c) (of_entry c) []

regroup : (o a b c d : Bool) → (o && (a && (b && (c && (d && true))))) ≡ ((a && (b && (c && true))) && (o && (d && true)))
regroup true true true true d = refl
regroup true true true false d = refl
regroup true true false c d = refl
regroup true false b c d = refl
regroup false true true true d = refl
regroup false true true false d = refl
regroup false true false c d = refl
regroup false false b c d = refl

module _ (bucket : List ℕ) (ts : List Row) where
  abbrev params : Row
  params = Text bucket ∷ []

  abbrev later : Row → Row → List Env
  later e t = flat_map (λ u. cond (list_all (holds (params ∷ e ∷ t ∷ u ∷ [])) later_tests) ((params ∷ e ∷ t ∷ u ∷ []) ∷ []) []) ts

  abbrev env_of : Row → Row → Env
  env_of e t = params ∷ e ∷ t ∷ (Int (pos (min 1 (length (later e t)))) ∷ []) ∷ []

  abbrev pass : Row → Row → Bool
  pass e t = list_all (holds (env_of e t)) sized_tests

  abbrev shown : Env → Row
  shown env = (output sized_query env).1

  few : (e t : Row) → length (later e t) ≡ length (filter (is_later (tenure_columns t)) ts)
  few e t = ap length (passing (is_later (tenure_columns t)) (λ u. params ∷ e ∷ t ∷ u ∷ []) ts) ∙ as_many (λ u. params ∷ e ∷ t ∷ u ∷ []) (filter (is_later (tenure_columns t)) ts)

  passes_is : (e t : Row) → pass e t ≡ (is_held_version bucket (entry_columns e) && ends ts (entry_columns e) (tenure_columns t))
  passes_is e t =
      regroup (is_true (binary (Compare Eq Binary) (column t 1) (column e 0))) (is_true (binary (Compare Eq Binary) (column e 2) (Text bucket))) (is_true (binary (Compare Eq Binary) (column e 4) (number 0))) (is_true (binary (Is Binary) (column e 10) Null)) (is_none (length (later e t)))
      ∙ ap (λ n. is_held_version bucket (entry_columns e) && (is_true (binary (Compare Eq Binary) (column t 1) (column e 0)) && (is_none n && true))) (few e t)

  one_entry : (e : Row) → map shown (flat_map (λ t. cond (pass e t) (env_of e t ∷ []) []) ts) ≡ held_of ts bucket (entry_columns e)
  one_entry e =
      ap (map shown) (passing (pass e) (env_of e) ts) ∙ map-map shown (env_of e) (filter (pass e) ts)
      ∙ ap (map (λ t. column e 5 ∷ column t 4 ∷ [])) (filter_same (pass e) (λ t. is_held_version bucket (entry_columns e) && ends ts (entry_columns e) (tenure_columns t)) (passes_is e) ts)
      ∙ kept_if (λ t. column e 5 ∷ column t 4 ∷ []) (is_held_version bucket (entry_columns e)) (λ t. ends ts (entry_columns e) (tenure_columns t)) ts

  all_entries : (es : List Row) → map shown (flat_map (λ e. flat_map (λ t. cond (pass e t) (env_of e t ∷ []) []) ts) es) ≡ flat_map (held_of ts bucket) (map entry_columns es)
  all_entries es =
      map-flat_map shown (λ e. flat_map (λ t. cond (pass e t) (env_of e t ∷ []) []) ts) es
      ∙ flat_map_same_on (λ e. map shown (flat_map (λ t. cond (pass e t) (env_of e t ∷ []) []) ts)) (λ e. held_of ts bucket (entry_columns e)) one_entry es
      ∙ sym (flat_map-map (held_of ts bucket) entry_columns es)

answered : (db : Trees) (bucket : List ℕ) (rows : List Row) → IsAnswer sized_query db (Text bucket ∷ []) rows → IsPermutation (flat_map (held_of (db tenures_tree) bucket) (map entry_columns (db entries_tree))) rows
answered db bucket rows a =
    let es = db entries_tree in
    let ts = db tenures_tree in
    let q = sized_query in
    let found = flat_map (λ e. flat_map (λ t. cond (pass bucket ts e t) (env_of bucket ts e t ∷ []) []) ts) es in
    let kept : map (λ (o : Output). o.1) a.kept ≡ flat_map (held_of ts bucket) (map entry_columns es) =
    ap (map (λ (o : Output). o.1)) (a.distinct ∙ ap (map (output q)) a.grouped) ∙ map-map (λ (o : Output). o.1) (output q) found ∙ all_entries bucket ts es in
    subst (λ xs. IsPermutation xs rows) kept (subst (IsPermutation (map (λ (o : Output). o.1) a.kept)) (sym a.shown) (IsPermutation-map (λ (o : Output). o.1) a.kept a.ordered a.same))

-- ---- by what the tenures state

none_is : (n : ℕ) → is_none n ≡ eqb n 0
unfolding unary
none_is zero = refl
none_is (suc n) = ap (λ k. is_true (unary Not (Int (pos k)))) (let one : min 1 (suc n) ≡ 1 = omega arith in one) ∙ sym (ne_eqb (suc n) 0 (omega arith))

module _ (ts : List Row) (all : List TenureRow) (are : IsPermutation (map tenure_row all) (map tenure_columns ts)) where
  abbrev later_than : TenureRow → Row → Bool
  later_than t d = is_true (binary (Compare Eq Binary) (column d 0) (number t.id)) && (is_true (binary (Compare Lt Binary) (number t.tenure.number) (column d 1)) && true)

  counted_is : (t : TenureRow) → length (filter (is_later (tenure_row t)) ts) ≡ length (filter (comes_after t) all)
  counted_is t =
      let out : Row → Output = λ r. ([], []) in
      let same = of_records tenure_row tenure_columns (later_than t) out (is_later (tenure_row t)) out (λ r. refl) (λ r. refl) (comes_after t) all ts are
      (always (λ u. later_than t (tenure_row u) ≡ comes_after t u) (λ u. two _ _ _ _ (same_number u.id t.id) (lower_number t.tenure.number u.tenure.number)) all) in
      sym (as_many out (filter (is_later (tenure_row t)) ts)) ∙ length_permutation _ _ same ∙ as_many (λ (u : TenureRow). out (tenure_row u)) (filter (comes_after t) all)

  ends_is : (h : History) (t : TenureRow) → ends ts (row_of h) (tenure_row t) ≡ is_last_of all h.entry.id t
  ends_is h t =
      two _ _ _ _ (same_number t.id h.entry.id)
      (none_is (length (filter (is_later (tenure_row t)) ts)) ∙ ap (λ n. eqb n 0) (counted_is t) ∙ none_counted (comes_after t) all)

  ended : (h : History) → IsPermutation (map (λ (t : TenureRow). number h.entry.size ∷ number t.tenure.from ∷ []) (filter (is_last_of all h.entry.id) all)) (of_entry ts (row_of h))
  ended h =
      let out : Row → Output = λ d. ([], number h.entry.size ∷ column d 3 ∷ []) in
      let out_of : Row → Output = λ t. ([], number h.entry.size ∷ column t 4 ∷ []) in
      let same = of_records tenure_row tenure_columns (ends ts (row_of h)) out (λ t. ends ts (row_of h) (tenure_columns t)) out_of (λ r. refl) (λ r. refl) (is_last_of all h.entry.id) all ts are
      (always (λ t. ends ts (row_of h) (tenure_row t) ≡ is_last_of all h.entry.id t) (ends_is h) all) in
      subst₂ IsPermutation (map-map (λ (o : Output). o.1) (λ (t : TenureRow). out (tenure_row t)) _) (map-map (λ (o : Output). o.1) out_of _) (IsPermutation-map (λ (o : Output). o.1) _ _ same)

sized_last : (size : ℕ) (o : Option TenureRow) → map (λ (t : TenureRow). number size ∷ number t.tenure.from ∷ []) (option_to_list o) ≡ map sized_row (map (sized_with size) (option_to_list (option_map tenure_in o)))
sized_last size None = refl
sized_last size (Some t) = refl

module _ (v : Vault) (db : Database) (sound : AreSound db v) where
  of_history : (h : History) → find (λ g. g.entry.id == h.entry.id) v.histories ≡ Some h → IsPermutation (map sized_row (sized_of h)) (of_entry (db.trees tenures_tree) (row_of h))
  of_history h found =
      let own = h.entry.id in
      let all = flat_map tenures_in v.histories in
      let its : map (λ (t : TenureRow). number h.entry.size ∷ number t.tenure.from ∷ []) (filter (is_last_of all own) all) ≡ map sized_row (sized_of h) =
      ap (map (λ (t : TenureRow). number h.entry.size ∷ number t.tenure.from ∷ [])) (last_is all own (tenures.rise v own db sound) ∙ ap (λ ts. option_to_list (last ts)) (tenures.mine_are v own db sound))
      ∙ sized_last h.entry.size (last (tenures.its v own db sound))
      ∙ ap (λ o. map sized_row (map (sized_with h.entry.size) (option_to_list o))) (stated_last v own ∙ ap (λ (o : Option History). last_tenure (unwrap_or (option_map (λ (g : History). g.tenures) o) [])) found) in
      subst (λ xs. IsPermutation xs (of_entry (db.trees tenures_tree) (row_of h))) its (ended (db.trees tenures_tree) all (tenures.stored v own db sound) h)

-- ---- the rows of a bucket

-- the rows are those of the held versions, in some order
pub found_sized : (v : Vault) (bucket : List ℕ) (rows : List Row) → FindsRows v sized_text (Text bucket ∷ []) rows → IsPermutation (map sized_row (flat_map sized_of (held_versions_in v bucket))) rows
found_sized v bucket rows (db, sound, answers) =
    let ts = db.trees tenures_tree in
    let keep = λ (h : History). is_held_version_in bucket h.entry in
    let hs = held_versions_in v bucket in
    let read = subst₂ (λ xs ys. IsPermutation (flat_map (held_of ys bucket) (map entry_columns xs)) rows) (uncovered db.trees entries_tree) (uncovered db.trees tenures_tree)
    (answered (overlay db.trees []) bucket rows ((answers sized_query (sized_is v.external)).answer Null)) in
    let stated : flat_map (held_of ts bucket) (map row_of v.histories) ≡ flat_map (λ h. of_entry ts (row_of h)) hs =
    flat_map-map (held_of ts bucket) row_of v.histories
    ∙ flat_map_same_on (λ h. held_of ts bucket (row_of h)) (λ h. cond (keep h) (of_entry ts (row_of h)) []) (λ (h : History). ap (λ b. cond b (of_entry ts (row_of h)) []) (test_is bucket h.entry)) v.histories
    ∙ parts_where keep (λ h. of_entry ts (row_of h)) v.histories in
    let P : History → Type 0 = λ h. IsPermutation (map sized_row (sized_of h)) (of_entry ts (row_of h)) in
    let each = All-filter P keep v.histories (all_weaker (λ h. find (λ g. g.entry.id == h.entry.id) v.histories ≡ Some h) P (of_history v db sound) v.histories (finds_itself 1 v.histories sound.spells.kept.sound.ids)) in
    let own = each_permuted (λ h. map sized_row (sized_of h)) (λ h. of_entry ts (row_of h)) hs each in
    let left = subst₂ IsPermutation (sym (map-flat_map sized_row sized_of hs)) (sym stated) own in
    IsPermutation-trans _ _ _ left (IsPermutation-trans _ _ _ (IsPermutation-flat_map (held_of ts bucket) _ _ sound.spells.entries) read)
