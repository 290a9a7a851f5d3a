-- The ids of a key's held entries, the newest first, and of those that are older than one.
use Rattle.std.proofs.Common.{◌≡◌, ℕ, ◌≤◌, ◌&&◌, List, [], ◌∷◌, ◌++◌, length, map, filter, reverse, take, min, Bool, true, None, Some, Less, IsPermutation, inl, inr, refl, sym, ap, ap₂, subst, ◌∙◌, arith}
use Rattle.std.specs.Prelude.{nat_lt}
use Rattle.std.proofs.lemmas.Bool.{cases_Bool}
use Rattle.std.proofs.lemmas.List.{take_all, take_min, length-map, length-reverse}
use Rattle.std.proofs.lemmas.List.Sorted.{IsPermutation-reverse, IsPermutation-sym, IsPermutation-trans}
use Rattle.sqlite_trees.specs.Tree.{IsAscending}
use Rattle.sqlite_keyed.proofs.ListLemmas.{filter-map, ascending-map, ascending_weaker, ascending-filter}
use Rattle.sqlite_value.specs.declared.value.Value.TheVariants.{Null, Text}
use Rattle.sqlite_value.specs.declared.keys.Collation.TheVariants.{Binary}
use Rattle.sqlite_value.specs.Order.{Row, column}
use Rattle.sqlite_sql.specs.declared.ops.BinaryOp.TheVariants.{Compare, Is}
use Rattle.sqlite_sql.specs.declared.ops.CompareOp.TheVariants.{Eq, Lt}
use Rattle.sqlite_sql.specs.Ops.{binary, is_true}
use Rattle.sqlite_sql.specs.Term.{col}
use Rattle.sqlite_sql.specs.Query.{Query, Output, output, output_cmp}
use Rattle.vault_audit_model.specs.Tables.{entries_tree}
use Rattle.vault_core_model.specs.declared.records.History.{History}
use Rattle.vault_core_model.specs.Places.{is_held_at, held_at}
use Rattle.vault_core_model.specs.Reads.{ids_before, is_older}
use Rattle.vault_core_model.specs.Vault.{Vault}
use Rattle.vault_audit_model.specs.Rows.{entry_columns}
use Rattle.vault_audit_model.specs.Values.{number}
use Rattle.vault_store_reads.specs.Queries.{FindsRows}
use Rattle.vault_store_model.specs.Scans.{passes}
use Rattle.vault_store_reads.specs.Shown.{id_row, ids_at}
use Rattle.vault_store_reads.proofs.BoundLemmas.{fewer}
use Rattle.vault_store_reads.proofs.KeyLemmas.{take-map}
use Rattle.vault_store_reads.proofs.OrderedListLemmas.{falls, filter-append, filter_twice, map-reverse, mapped_kept, always}
use Rattle.vault_store_reads.proofs.OrderedEntryLemmas.{row_of, IsOlder, held_test, held_tests, held_there, but_out, but_as, four}
use Rattle.vault_store_reads.proofs.SelectLemmas.{select_of, of_records, answered}
use Rattle.vault_store_reads.proofs.SettingLemmas.{ids_rise}
use Rattle.vault_store_reads.proofs.OrderedTextLemmas.{entries_tests, held_order, ids_text, ids_is, older_text, older_tests, older_order, older_is}
use Rattle.vault_audit_model.proofs.ValueLemmas.{same_text, none_removed}
use Rattle.vault_store_reads.proofs.ValueLemmas.{lower_number, number_less, null_then_less}
use mathlib.Core.List.{reverse-cons}

abbrev id_of : History → ℕ
id_of h = h.entry.id

-- ---- all of them

abbrev pub ids_query : Query
ids_query = select_of entries_tree entries_tests (col 1 0 ∷ []) held_order (col 0 2)

ids_alike : (bucket key : List ℕ) (h : History) → is_held_at bucket key h.entry ≡ true → but_out (row_of h) ≡ but_as h
ids_alike bucket key h here = ap (λ x. (x ∷ number h.entry.id ∷ [], id_row h.entry.id)) (held_there bucket key h here)

ids_fall : (hs : List History) → IsAscending IsOlder hs → IsAscending (λ a b. output_cmp ids_query a b ≡ Less) (reverse (map but_as hs))
ids_fall hs up =
    let R : Output → Output → Type 0 = λ a b. output_cmp ids_query b a ≡ Less in
    falls R (map but_as hs) (ascending-map R but_as hs (ascending_weaker IsOlder (λ g h. R (but_as g) (but_as h)) (λ g h low. null_then_less g.entry.id h.entry.id low) hs up))

-- what is shown of such outputs, the last first
shown_reversed : (as_ : History → Output) (shows : (h : History) → (as_ h).1 ≡ id_row h.entry.id) (hs : List History) → map (λ (o : Output). o.1) (reverse (map as_ hs)) ≡ map id_row (reverse (map id_of hs))
shown_reversed as_ shows hs =
    map-reverse (λ (o : Output). o.1) (map as_ hs) ∙ ap reverse (each hs) ∙ sym (map-reverse id_row (map id_of hs))
  where
    each : (gs : List History) → map (λ (o : Output). o.1) (map as_ gs) ≡ map id_row (map id_of gs)
    each [] = refl
    each (g ∷ gs) = ap₂ (λ a l. a ∷ l) (shows g) (each gs)

pub found_ids : (v : Vault) (bucket key : List ℕ) (most : ℕ) (rows : List Row) → FindsRows v ids_text (Text bucket ∷ Text key ∷ number most ∷ []) rows → rows ≡ map id_row (take most (ids_at v bucket key))
found_ids v bucket key most rows (db, sound, answers) =
    let params : Row = Text bucket ∷ Text key ∷ number most ∷ [] in
    let keep = λ (h : History). is_held_at bucket key h.entry in
    let hs = held_at v bucket key in
    let found = map (λ r. output ids_query (params ∷ r ∷ [])) (filter (passes entries_tests params) (db.trees entries_tree)) in
    let are = of_records row_of entry_columns (held_test bucket key) but_out (passes entries_tests params) (λ r. output ids_query (params ∷ r ∷ [])) (λ r. refl) (λ r. refl) keep v.histories (db.trees entries_tree) sound.spells.entries
    (always (λ h. held_test bucket key (row_of h) ≡ keep h) (held_tests bucket key) v.histories) in
    let alike = subst (λ os. IsPermutation os found) (mapped_kept (λ h. but_out (row_of h)) but_as keep (ids_alike bucket key) v.histories) are in
    let same = IsPermutation-trans _ _ _ (IsPermutation-sym _ _ (IsPermutation-reverse (map but_as hs))) alike in
    let rise = ascending-filter IsOlder keep v.histories (ids_rise 1 v.histories sound.spells.kept.sound.ids) in
    answered entries_tree entries_tests (col 1 0 ∷ []) held_order (col 0 2) db params rows (answers ids_query (ids_is v.external)) (reverse (map but_as hs)) same (ids_fall hs rise)
    ∙ ap (take most) (shown_reversed but_as (λ h. refl) hs) ∙ take-map id_row most (ids_at v bucket key)

-- ---- those that are older than one

abbrev older_test : List ℕ → List ℕ → ℕ → Row → Bool
older_test bucket key than c =
    is_true (binary (Compare Eq Binary) (column c 1) (Text bucket))
    && (is_true (binary (Compare Eq Binary) (column c 2) (Text key)) && (is_true (binary (Compare Lt Binary) (column c 0) (number than)) && (is_true (binary (Is Binary) (column c 9) Null) && true)))

older_tested : (bucket key : List ℕ) (than : ℕ) (h : History) → older_test bucket key than (row_of h) ≡ (is_held_at bucket key h.entry && nat_lt h.entry.id than)
older_tested bucket key than h = four _ _ _ _ _ _ _ _ (same_text h.entry.bucket bucket) (same_text h.entry.key key) (lower_number h.entry.id than) (none_removed h.entry.removal)

abbrev older_out : Row → Output
older_out c = (column c 0 ∷ [], column c 0 ∷ [])

abbrev older_as : History → Output
older_as h = (id_row h.entry.id, id_row h.entry.id)

abbrev pub older_query : Query
older_query = select_of entries_tree older_tests (col 1 0 ∷ []) older_order (col 0 3)

older_fall : (hs : List History) → IsAscending IsOlder hs → IsAscending (λ a b. output_cmp older_query a b ≡ Less) (reverse (map older_as hs))
older_fall hs up =
    let R : Output → Output → Type 0 = λ a b. output_cmp older_query b a ≡ Less in
    falls R (map older_as hs) (ascending-map R older_as hs (ascending_weaker IsOlder (λ g h. R (older_as g) (older_as h)) (λ g h low. number_less g.entry.id h.entry.id low) hs up))

filter-reverse : {X : Type 0} (p : X → Bool) (xs : List X) → filter p (reverse xs) ≡ reverse (filter p xs)
filter-reverse p [] = refl
filter-reverse {X} p (x ∷ xs) = ap (filter p) (reverse-cons x xs) ∙ filter-append p (reverse xs) (x ∷ []) ∙ ap (λ l. l ++ filter p (x ∷ [])) (filter-reverse p xs) ∙ with_last
  where
    append_none : (ys : List X) → ys ++ [] ≡ ys
    append_none [] = refl
    append_none (y ∷ ys) = ap (λ l. y ∷ l) (append_none ys)

    with_last : reverse (filter p xs) ++ filter p (x ∷ []) ≡ reverse (filter p (x ∷ xs))
    with_last = elim (cases_Bool (p x)) [
      | inl kept ↦ rw kept (sym (reverse-cons x (filter p xs)))
      | inr left ↦ rw left (append_none (reverse (filter p xs)))
    ]

-- the ids of those that pass both tests are those ids of all that pass the second
older_ids : (than : ℕ) (held : History → Bool) (hs : List History) → reverse (map id_of (filter (λ h. held h && nat_lt h.entry.id than) hs)) ≡ filter (λ id. nat_lt id than) (reverse (map id_of (filter held hs)))
older_ids than held hs =
    let low = λ (id : ℕ). nat_lt id than in
    ap (λ gs. reverse (map id_of gs)) (sym (filter_twice (λ h. low h.entry.id) held hs)) ∙ ap reverse (sym (filter-map low id_of (filter held hs)))
    ∙ sym (filter-reverse low (map id_of (filter held hs)))

pub found_older : (v : Vault) (bucket key : List ℕ) (than most : ℕ) (rows : List Row) → FindsRows v older_text (Text bucket ∷ Text key ∷ number than ∷ number most ∷ []) rows → rows ≡ map id_row (ids_before v bucket key (Some than) most)
found_older v bucket key than most rows (db, sound, answers) =
    let params : Row = Text bucket ∷ Text key ∷ number than ∷ number most ∷ [] in
    let keep = λ (h : History). is_held_at bucket key h.entry && nat_lt h.entry.id than in
    let hs = filter keep v.histories in
    let found = map (λ r. output older_query (params ∷ r ∷ [])) (filter (passes older_tests params) (db.trees entries_tree)) in
    let are = of_records row_of entry_columns (older_test bucket key than) older_out (passes older_tests params) (λ r. output older_query (params ∷ r ∷ [])) (λ r. refl) (λ r. refl) keep v.histories (db.trees entries_tree) sound.spells.entries
    (always (λ h. older_test bucket key than (row_of h) ≡ keep h) (older_tested bucket key than) v.histories) in
    let same = IsPermutation-trans _ _ _ (IsPermutation-sym _ _ (IsPermutation-reverse (map older_as hs))) are in
    let rise = ascending-filter IsOlder keep v.histories (ids_rise 1 v.histories sound.spells.kept.sound.ids) in
    let low = λ (id : ℕ). nat_lt id than in
    answered entries_tree older_tests (col 1 0 ∷ []) older_order (col 0 3) db params rows (answers older_query (older_is v.external)) (reverse (map older_as hs)) same (older_fall hs rise)
    ∙ ap (take most) (shown_reversed older_as (λ h. refl) hs ∙ ap (map id_row) (older_ids than (λ h. is_held_at bucket key h.entry) v.histories))
    ∙ take-map id_row most (filter low (ids_at v bucket key))

-- ---- as many as there are

counted : (v : Vault) (bucket key : List ℕ) → length (ids_at v bucket key) ≡ length (held_at v bucket key)
counted v bucket key = length-reverse (map id_of (held_at v bucket key)) ∙ length-map (held_at v bucket key) id_of

each_older : (xs : List ℕ) → filter (is_older None) xs ≡ xs
each_older [] = refl
each_older (x ∷ xs) = ap (λ l. x ∷ l) (each_older xs)

module _ (v : Vault) (bucket key : List ℕ) (count most : ℕ) (counts : count ≡ length (held_at v bucket key)) where
  abbrev ids : List ℕ
  ids = ids_at v bucket key

  all : count ≡ length ids
  all = counts ∙ sym (counted v bucket key)

  -- no more are asked for than there are
  pub by_count : take (min most count) ids ≡ ids_before v bucket key None most
  by_count = ap (λ n. take (min most n) ids) all ∙ take_min most ids ∙ ap (take most) (sym (each_older ids))

  -- all of them are, so those that are older than one are among these
  pub among_all : (than : ℕ) → count ≤ most → filter (λ id. nat_lt id than) (take count ids) ≡ ids_before v bucket key (Some than) most
  among_all than few =
      let low = λ (id : ℕ). nat_lt id than in
      let every : length ids ≤ count = omega (arith, all) in
      let less = fewer low ids in
      let fit : length (filter low ids) ≤ most = omega (arith, less, every, few) in
      ap (filter low) (take_all count ids every) ∙ sym (take_all most (filter low ids) fit)
