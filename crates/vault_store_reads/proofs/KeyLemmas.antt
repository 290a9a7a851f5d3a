-- The keys of a bucket, in the order of their bytes, are those of its heads.
use Rattle.std.proofs.Common.{◌≡◌, inl, inr, ℕ, zero, suc, ◌==◌, ◌&&◌, ◌||◌, List, [], ◌∷◌, length, map, filter, take, Bool, true, false, Less, IsPermutation, IsTrue, refl, sym, ap, subst, ◌∙◌, arith}
use Rattle.std.specs.List.{AllByRecursion}
use Rattle.std.specs.Str.{bytes_eq}
use Rattle.std.specs.Ordering.{nat_cmp, is_gt}
use Rattle.std.specs.Cmp.Lexicographic.{slice_cmp}
use Rattle.std.proofs.lemmas.Bool.{cases_Bool}
use Rattle.std.proofs.lemmas.List.Sorted.{IsPermutation-map, IsPermutation-trans}
use Rattle.sqlite_trees.specs.Tree.{IsAscending}
use Rattle.sqlite_keyed.proofs.ListLemmas.{map-map, ascending-map, ascending_weaker, ascending-filter, all_weaker, all_map, IsPermutation-filter}
use Rattle.sqlite_value.specs.declared.value.Value.TheVariants.{Text}
use Rattle.sqlite_value.specs.declared.keys.Collation.TheVariants.{Binary}
use Rattle.sqlite_value.specs.Order.{Row, column}
use Rattle.sqlite_sql.specs.declared.ops.BinaryOp.TheVariants.{Compare}
use Rattle.sqlite_sql.specs.declared.ops.CompareOp.TheVariants.{Eq, Gt}
use Rattle.sqlite_sql.specs.Ops.{binary, is_true}
use Rattle.sqlite_sql.specs.Term.{col}
use Rattle.sqlite_sql.specs.Query.{Query, Output, output, output_cmp}
use Rattle.vault_audit_model.specs.Tables.{heads_tree}
use Rattle.vault_base.specs.Name.{is_object_key}
use Rattle.vault_core_model.specs.declared.records.History.{History}
use Rattle.vault_core_model.specs.Places.{comes_after, is_current, keys_of}
use Rattle.vault_core_model.specs.Reads.{keys_after}
use Rattle.vault_core_model.specs.Vault.{Vault}
use Rattle.vault_audit_model.specs.declared.rows.HeadRow.{HeadRow}
use Rattle.vault_audit_model.specs.Limits.{IsHistory}
use Rattle.vault_audit_model.specs.Rows.{head_row, head_columns}
use Rattle.vault_audit_model.specs.Spells.{head_in, heads_in}
use Rattle.vault_audit_model.specs.Values.{number}
use Rattle.vault_core_laws.proofs.Lists.{All-filter}
use Rattle.vault_store_reads.specs.Queries.{FindsRows}
use Rattle.vault_store_model.specs.Scans.{passes}
use Rattle.vault_store_reads.specs.Shown.{key_row}
use Rattle.vault_store_reads.proofs.KeySetLemmas.{IsRising, keys_rise, now_keys, held_keys, are_now, one_each}
use Rattle.vault_store_reads.proofs.SelectLemmas.{select_of, of_records, answered}
use Rattle.vault_store_reads.proofs.OrderedTextLemmas.{keys_text, keys_tests, keys_order, keys_is}
use Rattle.vault_audit_model.proofs.ValueLemmas.{same_text}
use Rattle.vault_store_reads.proofs.ValueLemmas.{later_text, text_less}

-- ---- a key has a byte, so it comes after the empty text

pub some_bytes : (b : ℕ) (bs : List ℕ) → (length (b ∷ bs) == 0) ≡ false
some_bytes b bs = grind arith

named : (key : List ℕ) → IsTrue (is_object_key key) → (length key == 0) ≡ false
named [] is = absurd (cc is)
named (b ∷ bs) is = some_bytes b bs

pub after_is : (key after : List ℕ) → (length key == 0) ≡ false → is_gt (slice_cmp nat_cmp key after) ≡ comes_after key after
after_is [] [] is = absurd (cc is)
after_is (b ∷ bs) [] is = refl
after_is key (a ∷ as_) is = ap (λ b. b || is_gt (slice_cmp nat_cmp key (a ∷ as_))) (sym (some_bytes a as_))

-- ---- the answer

abbrev test : List ℕ → List ℕ → Row → Bool
test bucket after c = is_true (binary (Compare Eq Binary) (column c 0) (Text bucket)) && (is_true (binary (Compare Gt Binary) (column c 1) (Text after)) && true)

abbrev keep : List ℕ → List ℕ → HeadRow → Bool
keep bucket after x = bytes_eq x.bucket bucket && comes_after x.key after

pub two : (a b c d : Bool) → a ≡ c → b ≡ d → (a && (b && true)) ≡ (c && d)
two a true c d p q = rw (p, sym q) refl
two a false c d p q = rw (p, sym q) refl

tests : (bucket after : List ℕ) (x : HeadRow) → (length x.key == 0) ≡ false → test bucket after (head_row x) ≡ keep bucket after x
tests bucket after x is = two _ _ _ _ (same_text x.bucket bucket) (later_text x.key after ∙ after_is x.key after is)

all_tests : (v : Vault) (bucket after : List ℕ) → AllByRecursion (IsHistory v.external) v.histories → AllByRecursion (λ x. test bucket after (head_row x) ≡ keep bucket after x) (heads_in v)
all_tests v bucket after all =
    let P : HeadRow → Type 0 = λ x. test bucket after (head_row x) ≡ keep bucket after x in
    all_map P (head_in v) (filter (is_current v) v.histories)
    (All-filter (λ h. P (head_in v h)) (is_current v) v.histories (all_weaker (IsHistory v.external) (λ h. P (head_in v h)) (λ h is. tests bucket after (head_in v h) (named h.entry.key is.entry.key.1)) v.histories all))

abbrev out : Row → Output
out c = (column c 1 ∷ [], column c 1 ∷ [])

abbrev pub query : Query
query = select_of heads_tree keys_tests (col 1 2 ∷ []) keys_order (col 0 2)

abbrev key_out : List ℕ → Output
key_out key = (key_row key, key_row key)

outs_rise : (ks : List (List ℕ)) → IsRising ks → IsAscending (λ a b. output_cmp query a b ≡ Less) (map key_out ks)
outs_rise ks up =
    let R : Output → Output → Type 0 = λ a b. output_cmp query a b ≡ Less in
    ascending-map R key_out ks (ascending_weaker (λ j k. slice_cmp nat_cmp j k ≡ Less) (λ j k. R (key_out j) (key_out k)) (λ j k low. text_less j k low) ks up)

-- the keys of the heads that pass are those of the current entries
heads_keys : (v : Vault) (bucket after : List ℕ) (hs : List History)
    → map (λ x. out (head_row x)) (filter (keep bucket after) (map (head_in v) (filter (is_current v) hs))) ≡ map key_out (filter (λ k. comes_after k after) (now_keys v bucket hs))
heads_keys v bucket after [] = refl
heads_keys v bucket after (h ∷ hs) = elim (cases_Bool (is_current v h)) [
  | inr other ↦ rw other (heads_keys v bucket after hs)
  | inl current ↦ elim (cases_Bool (bytes_eq h.entry.bucket bucket)) [
    | inr elsewhere ↦ rw (current, elsewhere) (heads_keys v bucket after hs)
    | inl here ↦ elim (cases_Bool (comes_after h.entry.key after)) [
      | inr before ↦ rw (current, here, before) (heads_keys v bucket after hs)
      | inl later ↦ rw (current, here, later) (ap (λ l. key_out h.entry.key ∷ l) (heads_keys v bucket after hs))
    ]
  ]
]

pub take-map : {X Y : Type 0} (f : X → Y) (n : ℕ) (xs : List X) → take n (map f xs) ≡ map f (take n xs)
take-map f zero xs = refl
take-map f (suc n) [] = refl
take-map f (suc n) (x ∷ xs) = ap (λ l. f x ∷ l) (take-map f n xs)

pub found_keys : (v : Vault) (bucket after : List ℕ) (most : ℕ) (rows : List Row) → FindsRows v keys_text (Text bucket ∷ Text after ∷ number most ∷ []) rows → rows ≡ map key_row (keys_after v bucket after most)
found_keys v bucket after most rows (db, sound, answers) =
    let params : Row = Text bucket ∷ Text after ∷ number most ∷ [] in
    let later = λ (k : List ℕ). comes_after k after in
    let ks = filter later (keys_of v bucket) in
    let are = of_records head_row head_columns (test bucket after) out (passes keys_tests params) (λ r. output query (params ∷ r ∷ [])) (λ r. refl) (λ r. refl) (keep bucket after) (heads_in v) (db.trees heads_tree) sound.heads
    (all_tests v bucket after sound.spells.kept.limits.histories) in
    let each = IsPermutation-map key_out _ _ (IsPermutation-filter later _ _ (one_each v bucket v.histories (are_now v sound.spells.kept.sound.ids))) in
    let same = IsPermutation-trans (map key_out ks) _ _ each (subst (λ l. IsPermutation l (map (λ r. output query (params ∷ r ∷ [])) (filter (passes keys_tests params) (db.trees heads_tree)))) (heads_keys v bucket after v.histories) are) in
    let rise = ascending-filter (λ j k. slice_cmp nat_cmp j k ≡ Less) later (keys_of v bucket) (keys_rise (held_keys bucket v.histories)) in
    answered heads_tree keys_tests (col 1 2 ∷ []) keys_order (col 0 2) db params rows (answers query (keys_is v.external)) (map key_out ks) same (outs_rise ks rise)
    ∙ ap (take most) (map-map (λ (o : Output). o.1) key_out ks) ∙ take-map key_row most ks
