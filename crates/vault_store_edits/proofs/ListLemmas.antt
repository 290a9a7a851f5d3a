-- Rows that are put into a table and taken out of it, in any order.
use Rattle.std.proofs.Common.{◌≡◌, ℤ, List, [], ◌∷◌, ◌++◌, map, filter, Bool, true, false, not, ◌||◌, cond, Ordering, Less, Equal, Greater, refl, sym, ap, subst, ◌∙◌, inl, inr, true≢false}
use Rattle.std.specs.Prelude.{IsPermutation}
use Rattle.std.specs.List.{list_any}
use Rattle.std.specs.Ordering.{is_eq, match_ordering}
use Rattle.std.proofs.lemmas.Bool.{and_parts, or_parts, not-true, cases_Bool, both_ways, false_from_ne_true}
use Rattle.std.proofs.lemmas.Cmp.{tied_itself}
use Rattle.std.proofs.lemmas.List.{map-append}
use Rattle.std.proofs.lemmas.List.Sorted.{Contains-permutation, IsPermutation-refl, IsPermutation-cons, IsPermutation-trans, IsPermutation-sym, IsPermutation-middle, IsPermutation-append_right, IsPermutation-map, IsPermutation-filter_both}
use Rattle.sqlite_keyed.proofs.ListLemmas.{all_of, filter_all}
use Rattle.sqlite_value.specs.declared.value.Value.TheVariants.{Int}
use Rattle.sqlite_value.specs.Order.{Row, value_cmp}
use Rattle.sqlite_value.proofs.OrderLemmas.{value_cmp_total}
use Rattle.sqlite_trees.specs.Tree.{rowid, has_rowid, put_row, without_rowid}
use Rattle.sqlite_rules.specs.Lists.{Has}
use Rattle.sqlite_rules.specs.Calls.{ids_of}
use Rattle.sqlite_rules.specs.Edit.{id_in, put_all, without_all, is_taken, are_fresh}
use Rattle.sqlite_rules.proofs.ListLemmas.{has_contained, contains_had, has_filtered, has_kept, some_from, some_has}
use Rattle.sqlite_rules.proofs.ProbeLemmas.{has_mapped, mapped_has}
use Rattle.vault_store_edits.specs.UniqueRowids.{HaveUniqueRowids}

-- a row with a rowid of its own
pub put_permutes : (new : Row) (rows : List Row) → is_taken rows new ≡ false → IsPermutation (new ∷ rows) (put_row new rows)
put_permutes new [] free = IsPermutation-refl (new ∷ [])
put_permutes new (r ∷ rows) free = go (value_cmp (rowid r) (rowid new)) (or_parts _ _ free).0 (put_permutes new rows (or_parts _ _ free).1)
  where
    go : (o : Ordering) → is_eq o ≡ false → IsPermutation (new ∷ rows) (put_row new rows) → IsPermutation (new ∷ r ∷ rows) (match_ordering o (r ∷ put_row new rows) (new ∷ rows) (new ∷ r ∷ rows))
    go Less other later = IsPermutation-trans _ _ _ (IsPermutation-middle (new ∷ []) r rows) (IsPermutation-cons r _ _ later)
    go Equal other later = absurd (true≢false other)
    go Greater other later = IsPermutation-refl (new ∷ r ∷ rows)

pub put_all_permutes : (news rows : List Row) → are_fresh rows news ≡ true → IsPermutation (news ++ rows) (put_all rows news)
put_all_permutes [] rows fresh = IsPermutation-refl rows
put_all_permutes (n ∷ news) rows fresh =
    let parts = and_parts _ _ fresh in
    let put = put_permutes n rows (not-true _ parts.0) in
    IsPermutation-trans _ _ _ (IsPermutation-sym _ _ (IsPermutation-middle news n rows))
    (IsPermutation-trans _ _ _ (IsPermutation-append_right news (n ∷ rows) (put_row n rows) put) (put_all_permutes news (put_row n rows) parts.1))

-- ---- membership

pub has_permuted : {X : Type 0} (xs ys : List X) (x : X) → IsPermutation xs ys → Has xs x → Has ys x
has_permuted xs ys x same h = has_contained ys x (Contains-permutation xs ys x same (contains_had xs x h))

pub filter_alike : {X : Type 0} (p q : X → Bool) (xs : List X) → ((x : X) → Has xs x → p x ≡ q x) → filter p xs ≡ filter q xs
filter_alike p q [] same = refl
filter_alike p q (x ∷ xs) same =
    let rest = filter_alike p q xs (λ y h. same y (inr h)) in
    rw (same x (inl refl)) (elim (q x) as (λ b. cond b (x ∷ filter p xs) (filter p xs) ≡ cond b (x ∷ filter q xs) (filter q xs)) [ true ↦ ap (λ l. x ∷ l) rest | false ↦ rest ])

pub map_alike : {X Y : Type 0} (f g : X → Y) (xs : List X) → ((x : X) → Has xs x → f x ≡ g x) → map f xs ≡ map g xs
map_alike f g [] same = refl
map_alike f g (x ∷ xs) same = rw (same x (inl refl), map_alike f g xs (λ y h. same y (inr h))) refl

-- ---- rows that are taken out

abbrev has_one_of : List ℤ → Row → Bool
has_one_of ids r = list_any (λ id. has_rowid id r) ids

filter_both : (p q : Row → Bool) (xs : List Row) → filter (λ r. not (q r)) (filter (λ r. not (p r)) xs) ≡ filter (λ r. not (p r || q r)) xs
filter_both p q [] = refl
filter_both p q (x ∷ xs) =
    let rest = filter_both p q xs in
    elim (p x) as (λ b. filter (λ r. not (q r)) (cond (not b) (x ∷ filter (λ r. not (p r)) xs) (filter (λ r. not (p r)) xs)) ≡ cond (not (b || q x)) (x ∷ filter (λ r. not (p r || q r)) xs) (filter (λ r. not (p r || q r)) xs))
    [ true ↦ rest | false ↦ elim (q x) as (λ b. cond (not b) (x ∷ filter (λ r. not (q r)) (filter (λ r. not (p r)) xs)) (filter (λ r. not (q r)) (filter (λ r. not (p r)) xs)) ≡ cond (not b) (x ∷ filter (λ r. not (p r || q r)) xs) (filter (λ r. not (p r || q r)) xs)) [ true ↦ rest | false ↦ ap (λ l. x ∷ l) rest ] ]

without_all_is : (ids : List ℤ) (xs : List Row) → without_all xs ids ≡ filter (λ r. not (has_one_of ids r)) xs
without_all_is [] xs = sym (filter_all (λ _. true) xs (all_of (λ _. true ≡ true) (λ _. refl) xs))
without_all_is (id ∷ ids) xs = without_all_is ids (without_rowid id xs) ∙ filter_both (has_rowid id) (has_one_of ids) xs

int_tied : (id : ℤ) → is_eq (value_cmp (Int id) (Int id)) ≡ true
int_tied id = ap is_eq (tied_itself value_cmp_total (Int id))

pub own_rowid : (id : ℤ) (r : Row) → rowid r ≡ Int id → has_rowid id r ≡ true
own_rowid id r is = rw is (int_tied id)

-- The rows that are found are taken out, and no others, where each has a number of its own.
module _ (p : Row → Bool) (xs : List Row) (unique : HaveUniqueRowids p xs) (rows : List Row) (shown : Row → Row) (first : (r : Row) → rowid (shown r) ≡ rowid r)
    (found : IsPermutation (map shown (filter p xs)) rows) where
  numbers_of : (r : Row) → Has xs r → p r ≡ true → has_one_of (ids_of rows) r ≡ true
  numbers_of r here passed =
      let own = unique r here passed in
      let row : Has rows (shown r) = has_permuted _ rows (shown r) found (mapped_has shown (filter p xs) r (has_kept p xs r here passed)) in
      let listed : Has (ids_of rows) (id_in (rowid (shown r))) = mapped_has (λ x. id_in (rowid x)) rows (shown r) row in
      let id : id_in (rowid (shown r)) ≡ own.0 = ap id_in (first r ∙ own.1) in
      some_from (λ id. has_rowid id r) (ids_of rows) own.0 (subst (Has (ids_of rows)) id listed) (own_rowid own.0 r own.1)

  only_numbers_of : (r : Row) → Has xs r → has_one_of (ids_of rows) r ≡ true → p r ≡ true
  only_numbers_of r here one =
      let it = some_has (λ id. has_rowid id r) (ids_of rows) one in
      let row = has_mapped (λ x. id_in (rowid x)) rows it.0 it.1 in
      let back = has_permuted rows _ row.0 (IsPermutation-sym _ rows found) row.1 in
      let s = has_mapped shown (filter p xs) row.0 back in
      let kept = has_filtered p xs s.0 s.1 in
      let own = unique s.0 kept.0 kept.1 in
      let id : it.0 ≡ own.0 = row.2 ∙ ap (λ x. id_in (rowid x)) s.2 ∙ ap id_in (first s.0 ∙ own.1) in
      let same : r ≡ s.0 = own.2 r here (subst (λ n. has_rowid n r ≡ true) id it.2) in
      rw same kept.1

  pub left_is : without_all xs (ids_of rows) ≡ filter (λ r. not (p r)) xs
  left_is =
      without_all_is (ids_of rows) xs ∙ filter_alike _ _ xs (λ r here. ap not (elim (cases_Bool (p r)) [
        | inl passed ↦ numbers_of r here passed ∙ sym passed
        | inr failed ↦ false_from_ne_true _ (λ one. both_ways (p r) failed (only_numbers_of r here one)) ∙ sym failed
      ]))

-- each is changed where it passes, and stays where it doesn't
pub changed_apart : {X : Type 0} (p : Row → Bool) (f g h : Row → X) (xs : List Row) → ((r : Row) → Has xs r → p r ≡ true → g r ≡ f r) → ((r : Row) → Has xs r → p r ≡ false → h r ≡ f r)
    → IsPermutation (map f xs) (map g (filter p xs) ++ map h (filter (λ r. not (p r)) xs))
changed_apart p f g h xs passed failed =
    let both = IsPermutation-map f _ _ (IsPermutation-filter_both p (λ r. not (p r)) (λ r. refl) xs) in
    let changed : map f (filter p xs) ≡ map g (filter p xs) = map_alike f g _ (λ r here. let it = has_filtered p xs r here in sym (passed r it.0 it.1)) in
    let stays : map f (filter (λ r. not (p r)) xs) ≡ map h (filter (λ r. not (p r)) xs) = map_alike f h _ (λ r here. let it = has_filtered (λ s. not (p s)) xs r here in sym (failed r it.0 (not-true _ it.1))) in
    subst (IsPermutation (map f xs)) (map-append f (filter p xs) _ ∙ rw (changed, stays) refl) both
