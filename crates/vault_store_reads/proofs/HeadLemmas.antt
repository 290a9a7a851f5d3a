-- The row of the head of a key.
use Rattle.std.proofs.Common.{◌≡◌, inl, inr, ℕ, ◌==◌, ◌&&◌, nat_lt, List, [], ◌∷◌, length, map, filter, cond, Bool, true, false, Option, None, Some, slice_get, IsPermutation, Ordering, Less, nat_cmp, refl, sym, ap, subst, ◌∙◌, arith}
use Rattle.std.specs.List.{AllByRecursion}
use Rattle.std.specs.Ordering.{on}
use Rattle.std.specs.Str.{bytes_eq}
use Rattle.std.specs.Prelude.{option_map}
use Rattle.std.proofs.lemmas.Bool.{and_parts}
use Rattle.std.proofs.lemmas.Bool.Decides.{nat_tests}
use Rattle.std.proofs.lemmas.Slice.Eq.{bytes_eq-Decides}
use Rattle.sqlite_rules.specs.Lists.{Has}
use Rattle.sqlite_rules.proofs.ListLemmas.{all_from, has_filtered, has_kept, has_found}
use Rattle.sqlite_tied.proofs.RuleLemmas.{and_true}
use Rattle.sqlite_trees.proofs.ListLemmas.{map-map}
use Rattle.sqlite_value.specs.declared.value.Value.TheVariants.{Text}
use Rattle.sqlite_value.specs.declared.keys.Collation.TheVariants.{Binary}
use Rattle.sqlite_value.specs.Order.{Row, column}
use Rattle.sqlite_sql.specs.declared.ops.BinaryOp.TheVariants.{Compare}
use Rattle.sqlite_sql.specs.declared.ops.CompareOp.TheVariants.{Eq}
use Rattle.sqlite_sql.specs.Ops.{binary, is_true}
use Rattle.vault_core_model.specs.declared.records.Head.{Head}
use Rattle.vault_core_model.specs.declared.records.History.{History}
use Rattle.vault_core_model.specs.Order.{IsAscending}
use Rattle.vault_core_model.specs.Places.{is_held, is_held_at, held_at, newer, is_current}
use Rattle.vault_core_model.specs.Reads.{head_over, head_of}
use Rattle.vault_core_model.specs.Sound.{Sound}
use Rattle.vault_core_model.specs.Vault.{Vault}
use Rattle.vault_core_laws.proofs.Newest.{current-head, last_of}
use Rattle.vault_audit_model.specs.declared.rows.HeadRow.{HeadRow}
use Rattle.vault_audit_model.specs.Limits.{IsHeadRow, IsHistory}
use Rattle.vault_audit_model.specs.Rows.{head_row, head_columns}
use Rattle.vault_audit_model.specs.Spells.{head_in}
use Rattle.vault_audit_model.specs.Tables.{heads_tree}
use Rattle.vault_audit_model.proofs.SameRows.{number_same}
use Rattle.vault_audit_rows.specs.Records.{ReportsOne}
use Rattle.vault_store_reads.specs.Queries.{FindsRows}
use Rattle.vault_store_reads.proofs.FindLemmas.{records_found}
use Rattle.vault_store_reads.proofs.EntryLemmas.{id_of, ascending_ids, same_if}
use Rattle.vault_store_reads.proofs.LimitLemmas.{first_limited}
use Rattle.vault_store_reads.proofs.ListLemmas.{first_of, none_of}
use Rattle.vault_store_reads.proofs.TextLemmas.{where_is, head_text, head_shown, head_selects}
use Rattle.vault_audit_model.proofs.ValueLemmas.{same_text}
use Rattle.vault_audit_rows.proofs.LimitLemmas.{all_filtered}

-- ---- the last of entries by rising id

head_over-last : (h : History) (hs : List History) → head_over (h ∷ hs) ≡ Some (record { newest = (last_of h hs).entry.id; count = length (h ∷ hs) })
head_over-last h [] = refl
head_over-last h (g ∷ gs) = ap (λ (o : Option Head). option_map (λ x. record { newest = x.newest; count = length (h ∷ g ∷ gs) }) o) (head_over-last g gs)

ascending_left : {X : Type 0} (cmp : X → X → Ordering) (p : X → Bool) (xs : List X) → IsAscending cmp xs → IsAscending cmp (filter p xs)
ascending_left cmp p [] ascending = tt
ascending_left cmp p (x ∷ xs) ascending = elim (p x) as (λ b. IsAscending cmp (cond b (x ∷ filter p xs) (filter p xs))) [
  | true ↦ (all_filtered (λ y. cmp x y ≡ Less) p xs ascending.0, ascending_left cmp p xs ascending.1)
  | false ↦ ascending_left cmp p xs ascending.1
]

less_is : (a b : ℕ) → nat_cmp a b ≡ Less → nat_lt a b ≡ true
less_is a b e = grind (arith, nat_tests, e)

-- no entry of these is newer
IsNewest : History → List History → Type 0
IsNewest h hs = AllByRecursion (λ (g : History). nat_lt h.entry.id g.entry.id ≡ true → ⊥) hs

-- the one that has none newer is the last
newest_last : (h f : History) (fs : List History) → IsAscending (on id_of nat_cmp) (f ∷ fs) → Has (f ∷ fs) h → IsNewest h (f ∷ fs) → h ≡ last_of f fs
unfolding IsNewest
newest_last h f [] ascending (inl e) newest = e
newest_last h f [] ascending (inr none) newest = absurd none
newest_last h f (g ∷ gs) ascending (inl e) newest =
    absurd (newest.1.0 (subst (λ (x : History). nat_lt x.entry.id g.entry.id ≡ true) (sym e) (less_is f.entry.id g.entry.id ascending.0.0)))
newest_last h f (g ∷ gs) ascending (inr there) newest = newest_last h g gs ascending.1 there newest.1

-- what a test leaves is nothing, so nothing passes it
none_left : {X : Type 0} (p : X → Bool) (xs : List X) → length (filter p xs) ≡ 0 → (x : X) → Has xs x → p x ≡ true → ⊥
none_left p xs none x there passes = gone (filter p xs) none (has_kept p xs x there passes)
  where
    gone : (ys : List _) → length ys ≡ 0 → Has ys x → ⊥
    gone [] e h = h
    gone (y ∷ ys) e h = omega (arith, e)

-- ---- a vault

module _ (v : Vault) (bucket key : List ℕ) (sound : Sound v) where
  abbrev is_of_key : History → Bool
  is_of_key h = bytes_eq h.entry.bucket bucket && bytes_eq h.entry.key key

  abbrev here : History → Bool
  here h = is_held_at bucket key h.entry

  held_there : (h : History) → is_of_key h ≡ true → is_held h.entry ≡ true → here h ≡ true
  held_there h p q = let both = and_parts (bytes_eq h.entry.bucket bucket) (bytes_eq h.entry.key key) p in rw (both.0, both.1) q

  of_key : (h : History) → here h ≡ true → is_of_key h ≡ true
  of_key h p =
      let one = and_parts (bytes_eq h.entry.bucket bucket) (bytes_eq h.entry.key key && is_held h.entry) p in
      let two = and_parts (bytes_eq h.entry.key key) (is_held h.entry) one.1 in
      rw (one.0, two.0) refl

  same_place : (h : History) → is_of_key h ≡ true → held_at v h.entry.bucket h.entry.key ≡ held_at v bucket key
  same_place h p =
      let both = and_parts (bytes_eq h.entry.bucket bucket) (bytes_eq h.entry.key key) p in
      let b : h.entry.bucket ≡ bucket = (bytes_eq-Decides h.entry.bucket bucket).0 both.0 in
      let k : h.entry.key ≡ key = (bytes_eq-Decides h.entry.key key).0 both.1 in
      ap (λ x. held_at v x h.entry.key) b ∙ ap (held_at v bucket) k

  head_is : (list : List History) → held_at v bucket key ≡ list → (h : History) → Has list h → IsNewest h list → head_over list ≡ Some (record { newest = h.entry.id; count = length list })
  head_is [] is h there newest = absurd there
  head_is (f ∷ fs) is h there newest =
      let ascending : IsAscending (on id_of nat_cmp) (f ∷ fs) = subst (IsAscending (on id_of nat_cmp)) is (ascending_left (on id_of nat_cmp) here v.histories (ascending_ids v.histories sound.ids)) in
      let last : h ≡ last_of f fs = newest_last h f fs ascending there newest in
      head_over-last f fs ∙ ap (λ (x : History). Some (record { newest = x.entry.id; count = length (f ∷ fs) })) (sym last)

  -- the current entry of the key is what its head says
  current_head : (h : History) → Has v.histories h → is_current v h ≡ true → is_of_key h ≡ true → head_of v bucket key ≡ Some (head_in v h).head
  unfolding IsNewest
  current_head h there current p =
      let both = and_parts (is_held h.entry) (length (newer v h) == 0) current in
      let place = same_place h p in
      let none : length (filter (λ (g : History). nat_lt h.entry.id g.entry.id) (held_at v bucket key)) ≡ 0 =
      ap (λ gs. length (filter (λ (g : History). nat_lt h.entry.id g.entry.id) gs)) (sym place) ∙ same_if _ 0 both.1 in
      let newest : IsNewest h (held_at v bucket key) =
      all_from (λ (g : History). nat_lt h.entry.id g.entry.id ≡ true → ⊥) (held_at v bucket key) (none_left (λ (g : History). nat_lt h.entry.id g.entry.id) (held_at v bucket key) none) in
      head_is (held_at v bucket key) refl h (has_kept here v.histories h there (held_there h p both.0)) newest
      ∙ ap (λ gs. Some (record { newest = h.entry.id; count = length gs })) (sym place)

  -- where no current entry has the key, it has no head
  no_current : filter is_of_key (filter (is_current v) v.histories) ≡ [] → head_of v bucket key ≡ None
  no_current none = go (head_of v bucket key) refl
    where
      go : (o : Option Head) → head_of v bucket key ≡ o → o ≡ None
      go None e = refl
      go (Some hd) e =
          let it = current-head v bucket key hd sound e in
          let found = has_found (is_current v) (held_at v bucket key) it.0 it.1 in
          let held = has_filtered here v.histories it.0 found.0 in
          let left = has_kept is_of_key (filter (is_current v) v.histories) it.0 (has_kept (is_current v) v.histories it.0 held.0 found.1) (of_key it.0 held.1) in
          absurd (subst (λ hs. Has hs it.0) none left)

-- ---- its rows

module _ (v : Vault) (bucket key : List ℕ) (rows : List Row) (finds : FindsRows v head_text (Text bucket ∷ Text key ∷ []) rows) where
  abbrev row_of : History → Row
  row_of h = head_row (head_in v h)

  abbrev has_key : Row → Bool
  has_key r = is_true (binary (Compare Eq Binary) (column r 0) (Text bucket)) && is_true (binary (Compare Eq Binary) (column r 1) (Text key))

  abbrev is_its : History → Bool
  is_its h = bytes_eq h.entry.bucket bucket && bytes_eq h.entry.key key

  picked : (h : History) → has_key (row_of h) ≡ is_its h
  picked h = rw (same_text h.entry.bucket bucket, same_text h.entry.key key) refl

  head_found : IsPermutation (map row_of (filter is_its (filter (is_current v) v.histories))) rows
  head_found =
      records_found row_of head_columns heads_tree (where_is 1 0 ∷ where_is 2 1 ∷ []) head_shown (Text bucket ∷ Text key ∷ []) has_key is_its (λ r. refl)
      (λ r. rw (and_true (is_true (binary (Compare Eq Binary) (column r 2) (Text key)))) refl) picked
      finds.0 (filter (is_current v) v.histories) rows (subst (λ xs. IsPermutation xs (map head_columns (finds.0.trees heads_tree))) (map-map head_row (head_in v) (filter (is_current v) v.histories)) finds.1.heads)
      (finds.2 _ (head_selects v.external))

  pub head_read : (row : Row) (x : HeadRow) → slice_get rows 0 ≡ Some row → row ≡ head_row x → Some x.head ≡ head_of v bucket key
  head_read row x first reads =
      let it = first_of row_of (filter is_its (filter (is_current v) v.histories)) rows row head_found first in
      let its = has_filtered is_its (filter (is_current v) v.histories) it.0 it.1 in
      let current = has_filtered (is_current v) v.histories it.0 its.0 in
      let e : head_row x ≡ head_row (head_in v it.0) = sym reads ∙ it.2 in
      let one : x.head ≡ (head_in v it.0).head = rw (number_same x.head.newest (head_in v it.0).head.newest (ap (λ r. column r 2) e), number_same x.head.count (head_in v it.0).head.count (ap (λ r. column r 3) e)) refl in
      ap Some one ∙ sym (current_head v bucket key finds.1.spells.kept.sound it.0 current.0 current.1 its.1)

  pub head_limited : (row : Row) → slice_get rows 0 ≡ Some row → ReportsOne head_row IsHeadRow row
  head_limited row first =
      let now = all_filtered (IsHistory v.external) (is_current v) v.histories finds.1.spells.kept.limits.histories in
      let it = first_limited row_of (IsHistory v.external) (filter is_its (filter (is_current v) v.histories)) rows row (all_filtered (IsHistory v.external) is_its (filter (is_current v) v.histories) now) head_found first in
      (head_in v it.0, it.1, record { bucket = it.2.entry.bucket; key = it.2.entry.key; newest = it.2.entry.id })

  pub no_head : ◌≡◌ {A = Option Row} None (slice_get rows 0) → None ≡ head_of v bucket key
  no_head none = sym (no_current v bucket key finds.1.spells.kept.sound (none_of row_of (filter is_its (filter (is_current v) v.histories)) rows head_found none))
