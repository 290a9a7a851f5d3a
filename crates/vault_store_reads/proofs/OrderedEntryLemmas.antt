-- Held entries of a key, and the newest besides one, by their ids.
use Rattle.std.proofs.Common.{◌≡◌, ℕ, ◌<◌, ◌==◌, ◌&&◌, pos, List, [], ◌∷◌, length, map, filter, reverse, take, Bool, true, false, not, Option, None, Some, option_to_list, Less, IsPermutation, refl, sym, ap, subst, ◌∙◌}
use Rattle.std.specs.Prelude.{option_map}
use Rattle.std.specs.Str.{bytes_eq}
use Rattle.std.proofs.lemmas.Bool.{and_parts}
use Rattle.std.proofs.lemmas.List.Sorted.{IsPermutation-reverse, IsPermutation-sym, IsPermutation-trans}
use Rattle.sqlite_trees.specs.Tree.{IsAscending}
use Rattle.sqlite_keyed.proofs.ListLemmas.{map-map, ascending-map, ascending_weaker, ascending-filter}
use Rattle.sqlite_value.specs.declared.value.Value.TheVariants.{Null, Int, Text}
use Rattle.sqlite_value.specs.declared.keys.Collation.TheVariants.{Binary}
use Rattle.sqlite_value.specs.Order.{Row, column}
use Rattle.sqlite_sql.specs.declared.ops.BinaryOp.TheVariants.{Compare, Is}
use Rattle.sqlite_sql.specs.declared.ops.CompareOp.TheVariants.{Eq, Ne}
use Rattle.sqlite_sql.specs.Ops.{binary, is_true}
use Rattle.sqlite_sql.specs.Term.{col, lit}
use Rattle.sqlite_sql.specs.Query.{Query, Output, output, output_cmp}
use Rattle.vault_audit_model.specs.Tables.{entries_tree}
use Rattle.vault_core_model.specs.declared.records.Head.{Head}
use Rattle.vault_core_model.specs.declared.records.History.{History}
use Rattle.vault_core_model.specs.Places.{is_held, is_held_at, held_at}
use Rattle.vault_core_model.specs.Reads.{held_of, entries_of, head_over}
use Rattle.vault_core_model.specs.Vault.{Vault}
use Rattle.vault_audit_model.specs.Rows.{entry_row, entry_columns, removal_at}
use Rattle.vault_audit_model.specs.Values.{number}
use Rattle.vault_store_reads.specs.Queries.{FindsRows}
use Rattle.vault_store_model.specs.Scans.{passes}
use Rattle.vault_store_reads.specs.Shown.{entry_shown, id_row, newest_but}
use Rattle.vault_store_reads.proofs.OrderedListLemmas.{falls, map-reverse, last, first_reversed, last-map, mapped_kept, always, filter_twice}
use Rattle.vault_store_reads.proofs.SelectLemmas.{select_of, of_records, answered}
use Rattle.vault_store_reads.proofs.SettingLemmas.{ids_rise}
use Rattle.vault_store_reads.proofs.OrderedTextLemmas.{entries_text, entries_tests, entries_shown, entries_is, newest_text, newest_tests, newest_is, held_order}
use Rattle.vault_audit_model.proofs.ValueLemmas.{same_text, none_removed, three}
use Rattle.vault_store_reads.proofs.ValueLemmas.{other_number, null_if_held, null_then_less}

abbrev pub row_of : History → Row
row_of h = entry_row h.entry

-- an entry is older than the next
abbrev pub IsOlder : History → History → Type 0
IsOlder g h = g.entry.id < h.entry.id

-- ---- held entries

abbrev pub held_test : List ℕ → List ℕ → Row → Bool
held_test bucket key c =
    is_true (binary (Compare Eq Binary) (column c 1) (Text bucket))
    && (is_true (binary (Compare Eq Binary) (column c 2) (Text key)) && (is_true (binary (Is Binary) (column c 9) Null) && true))

pub held_tests : (bucket key : List ℕ) (h : History) → held_test bucket key (row_of h) ≡ is_held_at bucket key h.entry
held_tests bucket key h = three _ _ _ _ _ _ (same_text h.entry.bucket bucket) (same_text h.entry.key key) (none_removed h.entry.removal)

abbrev held_out : Row → Output
held_out c = (column c 9 ∷ column c 0 ∷ [], column c 0 ∷ column c 3 ∷ column c 4 ∷ column c 6 ∷ [])

-- what that is of an entry that is held
abbrev held_as : History → Output
held_as h = (Null ∷ number h.entry.id ∷ [], entry_shown (held_of h))

pub held_there : (bucket key : List ℕ) (h : History) → is_held_at bucket key h.entry ≡ true → removal_at h.entry.removal ≡ Null
held_there bucket key h here =
    let rest = (and_parts (bytes_eq h.entry.bucket bucket) (bytes_eq h.entry.key key && is_held h.entry) here).1 in
    null_if_held h.entry.removal (and_parts (bytes_eq h.entry.key key) (is_held h.entry) rest).1

held_alike : (bucket key : List ℕ) (h : History) → is_held_at bucket key h.entry ≡ true → held_out (row_of h) ≡ held_as h
held_alike bucket key h here = ap (λ x. (x ∷ number h.entry.id ∷ [], entry_shown (held_of h))) (held_there bucket key h here)

abbrev pub held_query : Query
held_query = select_of entries_tree entries_tests entries_shown held_order (col 0 2)

held_fall : (hs : List History) → IsAscending IsOlder hs → IsAscending (λ a b. output_cmp held_query a b ≡ Less) (reverse (map held_as hs))
held_fall hs up =
    let R : Output → Output → Type 0 = λ a b. output_cmp held_query b a ≡ Less in
    falls R (map held_as hs) (ascending-map R held_as hs (ascending_weaker IsOlder (λ g h. R (held_as g) (held_as h)) (λ g h low. null_then_less g.entry.id h.entry.id low) hs up))

shown_reversed : (hs : List History) → map (λ (o : Output). o.1) (reverse (map held_as hs)) ≡ reverse (map entry_shown (map held_of hs))
shown_reversed hs =
    map-reverse (λ (o : Output). o.1) (map held_as hs) ∙ ap reverse (map-map (λ (o : Output). o.1) held_as hs ∙ sym (map-map entry_shown held_of hs))

pub found_held : (v : Vault) (bucket key : List ℕ) (most : ℕ) (rows : List Row) → FindsRows v entries_text (Text bucket ∷ Text key ∷ number most ∷ []) rows → rows ≡ take most (reverse (map entry_shown (entries_of v bucket key)))
found_held v bucket key most rows (db, sound, answers) =
    let params : Row = Text bucket ∷ Text key ∷ number most ∷ [] in
    let keep = λ (h : History). is_held_at bucket key h.entry in
    let hs = held_at v bucket key in
    let found = map (λ r. output held_query (params ∷ r ∷ [])) (filter (passes entries_tests params) (db.trees entries_tree)) in
    let are = of_records row_of entry_columns (held_test bucket key) held_out (passes entries_tests params) (λ r. output held_query (params ∷ r ∷ [])) (λ r. refl) (λ r. refl) keep v.histories (db.trees entries_tree) sound.spells.entries
    (always (λ h. held_test bucket key (row_of h) ≡ keep h) (held_tests bucket key) v.histories) in
    let alike = subst (λ os. IsPermutation os found) (mapped_kept (λ h. held_out (row_of h)) held_as keep (held_alike bucket key) v.histories) are in
    let same = IsPermutation-trans _ _ _ (IsPermutation-sym _ _ (IsPermutation-reverse (map held_as hs))) alike in
    let rise = ascending-filter IsOlder keep v.histories (ids_rise 1 v.histories sound.spells.kept.sound.ids) in
    answered entries_tree entries_tests entries_shown held_order (col 0 2) db params rows (answers held_query (entries_is v.external)) (reverse (map held_as hs)) same (held_fall hs rise)
    ∙ ap (take most) (shown_reversed hs)

-- ---- the newest besides one

abbrev but_test : List ℕ → List ℕ → ℕ → Row → Bool
but_test bucket key id c =
    is_true (binary (Compare Eq Binary) (column c 1) (Text bucket))
    && (is_true (binary (Compare Eq Binary) (column c 2) (Text key)) && (is_true (binary (Compare Ne Binary) (column c 0) (number id)) && (is_true (binary (Is Binary) (column c 9) Null) && true)))

pub four : (a b c d e f g h : Bool) → a ≡ e → b ≡ f → c ≡ h → d ≡ g → (a && (b && (c && (d && true)))) ≡ ((e && (f && g)) && h)
four a b c d e f g h p q r s = rw (p, q, r, s) (ends e f g h)
  where
    ends : (e f g h : Bool) → (e && (f && (h && (g && true)))) ≡ ((e && (f && g)) && h)
    ends false f g h = refl
    ends true false g h = refl
    ends true true false false = refl
    ends true true false true = refl
    ends true true true false = refl
    ends true true true true = refl

but_tests : (bucket key : List ℕ) (id : ℕ) (h : History) → but_test bucket key id (row_of h) ≡ (is_held_at bucket key h.entry && not (h.entry.id == id))
but_tests bucket key id h = four _ _ _ _ _ _ _ _ (same_text h.entry.bucket bucket) (same_text h.entry.key key) (other_number h.entry.id id) (none_removed h.entry.removal)

abbrev pub but_out : Row → Output
but_out c = (column c 9 ∷ column c 0 ∷ [], column c 0 ∷ [])

abbrev pub but_as : History → Output
but_as h = (Null ∷ number h.entry.id ∷ [], id_row h.entry.id)

but_alike : (bucket key : List ℕ) (id : ℕ) (h : History) → (is_held_at bucket key h.entry && not (h.entry.id == id)) ≡ true → but_out (row_of h) ≡ but_as h
but_alike bucket key id h here =
    let held = (and_parts (is_held_at bucket key h.entry) (not (h.entry.id == id)) here).0 in
    ap (λ x. (x ∷ number h.entry.id ∷ [], id_row h.entry.id)) (held_there bucket key h held)

abbrev pub but_query : Query
but_query = select_of entries_tree newest_tests (col 1 0 ∷ []) held_order (lit (Int (pos 1)))

abbrev but_outs : List History → List Output
but_outs hs = map but_as hs

but_fall : (hs : List History) → IsAscending IsOlder hs → IsAscending (λ a b. output_cmp but_query a b ≡ Less) (reverse (but_outs hs))
but_fall hs up =
    let R : Output → Output → Type 0 = λ a b. output_cmp but_query b a ≡ Less in
    falls R (but_outs hs) (ascending-map R but_as hs (ascending_weaker IsOlder (λ g h. R (but_as g) (but_as h)) (λ g h low. null_then_less g.entry.id h.entry.id low) hs up))

abbrev head_as : ℕ → ℕ → Head
head_as newest count = record { newest = newest; count = count }

newest_last : (hs : List History) → option_map (λ h. h.entry.id) (last hs) ≡ option_map (λ head. head.newest) (head_over hs)
newest_last [] = refl
newest_last (h ∷ []) = refl
newest_last (h ∷ g ∷ gs) = newest_last (g ∷ gs) ∙ kept (length (h ∷ g ∷ gs)) (head_over (g ∷ gs))
  where
    kept : (n : ℕ) (o : Option Head) → option_map (λ head. head.newest) o ≡ option_map (λ head. head.newest) (option_map (λ (x : Head). head_as x.newest n) o)
    kept n None = refl
    kept n (Some x) = refl

first_but : (hs : List History) → take 1 (map (λ (o : Output). o.1) (reverse (but_outs hs))) ≡ map id_row (option_to_list (option_map (λ head. head.newest) (head_over hs)))
first_but hs =
    ap (take 1) (map-reverse (λ (o : Output). o.1) (but_outs hs) ∙ ap reverse (map-map (λ (o : Output). o.1) but_as hs))
    ∙ first_reversed (map (λ h. id_row h.entry.id) hs) ∙ ap option_to_list (last-map (λ h. id_row h.entry.id) hs) ∙ twice (last hs)
    ∙ ap (λ o. map id_row (option_to_list o)) (newest_last hs)
  where
    twice : (o : Option History) → option_to_list (option_map (λ h. id_row h.entry.id) o) ≡ map id_row (option_to_list (option_map (λ h. h.entry.id) o))
    twice None = refl
    twice (Some h) = refl

pub found_newest : (v : Vault) (bucket key : List ℕ) (id : ℕ) (rows : List Row) → FindsRows v newest_text (Text bucket ∷ Text key ∷ number id ∷ []) rows → rows ≡ map id_row (option_to_list (newest_but v bucket key id))
found_newest v bucket key id rows (db, sound, answers) =
    let params : Row = Text bucket ∷ Text key ∷ number id ∷ [] in
    let keep = λ (h : History). is_held_at bucket key h.entry && not (h.entry.id == id) in
    let hs = filter keep v.histories in
    let are = of_records row_of entry_columns (but_test bucket key id) but_out (passes newest_tests params) (λ r. output but_query (params ∷ r ∷ [])) (λ r. refl) (λ r. refl) keep v.histories (db.trees entries_tree) sound.spells.entries
    (always (λ h. but_test bucket key id (row_of h) ≡ keep h) (but_tests bucket key id) v.histories) in
    let found = map (λ r. output but_query (params ∷ r ∷ [])) (filter (passes newest_tests params) (db.trees entries_tree)) in
    let alike = subst (λ os. IsPermutation os found) (mapped_kept (λ h. but_out (row_of h)) but_as keep (but_alike bucket key id) v.histories) are in
    let same = IsPermutation-trans _ _ _ (IsPermutation-sym _ _ (IsPermutation-reverse (but_outs hs))) alike in
    let rise = ascending-filter IsOlder keep v.histories (ids_rise 1 v.histories sound.spells.kept.sound.ids) in
    answered entries_tree newest_tests (col 1 0 ∷ []) held_order (lit (Int (pos 1))) db params rows (answers but_query (newest_is v.external)) (reverse (but_outs hs)) same (but_fall hs rise)
    ∙ first_but hs ∙ ap (λ gs. map id_row (option_to_list (option_map (λ head. head.newest) (head_over gs)))) (sym (filter_twice (λ h. not (h.entry.id == id)) (λ h. is_held_at bucket key h.entry) v.histories))
