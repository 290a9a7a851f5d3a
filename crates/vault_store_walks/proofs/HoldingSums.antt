-- The sums over the rows of a bucket's held versions are the vault's, and numbers of 64 bits.
use Rattle.std.proofs.Common.{◌≡◌, ℕ, ◌+◌, ◌*◌, ◌<◌, ◌^◌, pos, List, [], ◌∷◌, ◌++◌, map, flat_map, Bool, true, false, Option, option_to_list, IsPermutation, refl, sym, ap, ap₂, subst, ◌∙◌, arith}
use Rattle.std.specs.Prelude.{sum_by}
use Rattle.std.specs.List.{AllByRecursion}
use Rattle.std.proofs.lemmas.List.Sorted.{sum_by-IsPermutation}
use Rattle.std.proofs.lemmas.List.Sums.{sum_by-append, sum_by-cons, sum_by_push}
use Rattle.sqlite_trees.proofs.ListLemmas.{all-permutation}
use Rattle.sqlite_value.specs.Order.{Row, column}
use Rattle.sqlite_value.specs.declared.value.Value.{Value}
use Rattle.sqlite_value.specs.declared.value.Value.TheVariants.{Int, Text}
use Rattle.vault_base.specs.Days.{day}
use Rattle.vault_core_laws.proofs.Holdings.{bytes-held, weight-held}
use Rattle.vault_core_laws.proofs.Lists.{All-filter}
use Rattle.vault_core_model.specs.Places.{is_held_version_in}
use Rattle.vault_core_model.specs.Sound.{AreTenures, HasTenures, HasTenuresAs, last_tenure}
use Rattle.vault_core_model.specs.Totals.{bucket_bytes, bucket_weight, held_versions_in, last_day_from}
use Rattle.vault_core_model.specs.Vault.{Vault}
use Rattle.vault_core_model.specs.declared.records.History.{History}
use Rattle.vault_core_model.specs.declared.records.Tenure.{Tenure}
use Rattle.vault_audit_model.specs.Limits.{IsHistory, IsSizedAs}
use Rattle.vault_audit_model.specs.Spells.{IsKept}
use Rattle.vault_audit_model.proofs.ListLemmas.{all_as, all_both}
use Rattle.vault_audit_rows.specs.Records.{ReportsOne}
use Rattle.vault_store_reads.specs.Queries.{FindsRows}
use Rattle.vault_store_walks.specs.Sized.{IsSizedRow, sized_of, sized_row, sized_with, weight_of}
use Rattle.vault_store_walks.specs.declared.held.SizedRow.{SizedRow}
use Rattle.vault_store_walks.proofs.HoldingLemmas.{found_sized}
use Rattle.vault_store_reads.proofs.LimitLemmas.{at_seam}
use Rattle.vault_store_walks.proofs.WalkTexts.{sized_text}
use Rattle.vault_store_walks.proofs.ReadableRows.{sized_readable}

-- ---- what a row says

abbrev as_number : Value → ℕ
as_number (Int (pos n)) = n
as_number _ = 0

abbrev unsized : Row → SizedRow
unsized row = record { size = as_number (column row 0); from = as_number (column row 1) }

back : (x : SizedRow) → unsized (sized_row x) ≡ x
back x = refl

-- ---- the sums over rows

abbrev pub bytes_in : List Row → ℕ
bytes_in = sum_by (λ row. (unsized row).size)

abbrev pub weight_in : List Row → ℕ
weight_in = sum_by (λ row. weight_of (unsized row))

module _ (f : SizedRow → ℕ) where
  with_one : (rows : List Row) (row : Row) (x : SizedRow) (before after : ℕ) → row ≡ sized_row x → before ≡ sum_by (λ r. f (unsized r)) rows → after ≡ before + f x → after ≡ sum_by (λ r. f (unsized r)) (rows ++ row ∷ [])
  with_one rows row x before after is so more = let own : f (unsized row) ≡ f x = ap (λ r. f (unsized r)) is ∙ ap f (back x) in omega (arith, so, more, own, sum_by_push (λ r. f (unsized r)) rows row)

  of_items : (xs : List SizedRow) → sum_by (λ r. f (unsized r)) (map sized_row xs) ≡ sum_by f xs
  of_items [] = refl
  of_items (x ∷ xs) = sum_by-cons (λ r. f (unsized r)) (sized_row x) (map sized_row xs) ∙ ap₂ ◌+◌ (ap f (back x)) (of_items xs) ∙ sym (sum_by-cons f x xs)

  of_rows : (xs : List SizedRow) (rows : List Row) → IsPermutation (map sized_row xs) rows → sum_by (λ r. f (unsized r)) rows ≡ sum_by f xs
  of_rows xs rows same = sum_by-IsPermutation (λ r. f (unsized r)) (map sized_row xs) rows same ∙ of_items xs

  of_versions : (g : History → ℕ) (hs : List History) → AllByRecursion (λ h. sum_by f (sized_of h) ≡ g h) hs → sum_by f (flat_map sized_of hs) ≡ sum_by g hs
  of_versions g [] all = refl
  of_versions g (h ∷ hs) all = sum_by-append f (sized_of h) (flat_map sized_of hs) ∙ ap₂ ◌+◌ all.0 (of_versions g hs all.1) ∙ sym (sum_by-cons g h hs)

  of_last : (size : ℕ) (t : Tenure) (ts : List Tenure) → (l : Tenure) × (sum_by f (map (sized_with size) (option_to_list (last_tenure (t ∷ ts)))) ≡ f (sized_with size l)) × (day l.from ≡ last_day_from (t ∷ ts))
  of_last size t [] = (t, alone (sized_with size t), refl)
    where
      alone : (x : SizedRow) → sum_by f (x ∷ []) ≡ f x
      alone x = omega (arith, sum_by-cons f x [])
  of_last size t (u ∷ us) = of_last size u us

pub bytes_more : (rows : List Row) (row : Row) (x : SizedRow) (before after : ℕ) → row ≡ sized_row x → before ≡ bytes_in rows → after ≡ before + x.size → after ≡ bytes_in (rows ++ row ∷ [])
bytes_more = with_one (λ (x : SizedRow). x.size)

pub weight_more : (rows : List Row) (row : Row) (x : SizedRow) (before after : ℕ) → row ≡ sized_row x → before ≡ weight_in rows → after ≡ before + weight_of x → after ≡ weight_in (rows ++ row ∷ [])
weight_more = with_one weight_of

-- ---- of a vault

empty_as : (external marker : Bool) (size : ℕ) (digest : Option (List ℕ)) → IsSizedAs marker external size digest → marker ≡ true → size ≡ 0
empty_as external true size digest is yes_ = is.0
empty_as external false size digest is yes_ = absurd (cc yes_)

-- its last tenure has the size of a version; a marker has neither
module _ (v : Vault) (h : History) (is : IsHistory v.external h) where
  bytes_by : (marker : Bool) (ts : List Tenure) → h.entry.marker ≡ marker → h.tenures ≡ ts → HasTenuresAs marker v h → sum_by (λ (x : SizedRow). x.size) (map (sized_with h.entry.size) (option_to_list (last_tenure ts))) ≡ h.entry.size
  bytes_by true ts so are has = rw (sym are ∙ has, empty_as v.external h.entry.marker h.entry.size h.entry.digest is.entry.sized so) refl
  bytes_by false [] so are has = absurd (subst (λ us. AreTenures v h.entry us) are has.0)
  bytes_by false (t ∷ ts) so are has = (of_last (λ (x : SizedRow). x.size) h.entry.size t ts).1

  weight_by : (marker : Bool) (ts : List Tenure) → h.entry.marker ≡ marker → h.tenures ≡ ts → HasTenuresAs marker v h → sum_by weight_of (map (sized_with h.entry.size) (option_to_list (last_tenure ts))) ≡ h.entry.size * last_day_from ts
  weight_by true ts so are has = rw (sym are ∙ has) (let none : 0 ≡ h.entry.size * 0 = omega arith in none)
  weight_by false [] so are has = absurd (subst (λ us. AreTenures v h.entry us) are has.0)
  weight_by false (t ∷ ts) so are has = let it = of_last weight_of h.entry.size t ts in it.1 ∙ ap (λ n. h.entry.size * n) it.2

module _ (v : Vault) (kept : IsKept v) (bucket : List ℕ) (rows : List Row) (are : IsPermutation (map sized_row (flat_map sized_of (held_versions_in v bucket))) rows) where
  each : AllByRecursion (λ h. IsHistory v.external h × HasTenures v h) v.histories
  each = all_both (IsHistory v.external) (HasTenures v) v.histories kept.limits.histories kept.sound.tenured

  pub bytes_are : bytes_in rows ≡ bucket_bytes v bucket
  bytes_are =
      let f : SizedRow → ℕ = λ x. x.size in
      let P : History → Type 0 = λ h. sum_by f (sized_of h) ≡ h.entry.size in
      let all = all_as {Q = P} (λ (h : History) (it : IsHistory v.external h × HasTenures v h). bytes_by v h it.0 h.entry.marker h.tenures refl refl it.1) v.histories each in
      of_rows f (flat_map sized_of (held_versions_in v bucket)) rows are ∙ of_versions f (λ h. h.entry.size) (held_versions_in v bucket) (All-filter P (λ h. is_held_version_in bucket h.entry) v.histories all)

  pub weight_is : weight_in rows ≡ bucket_weight v bucket
  weight_is =
      let P : History → Type 0 = λ h. sum_by weight_of (sized_of h) ≡ h.entry.size * last_day_from h.tenures in
      let all = all_as {Q = P} (λ (h : History) (it : IsHistory v.external h × HasTenures v h). weight_by v h it.0 h.entry.marker h.tenures refl refl it.1) v.histories each in
      of_rows weight_of (flat_map sized_of (held_versions_in v bucket)) rows are
      ∙ of_versions weight_of (λ h. h.entry.size * last_day_from h.tenures) (held_versions_in v bucket) (All-filter P (λ h. is_held_version_in bucket h.entry) v.histories all)

  pub bytes_bound : bytes_in rows < 2 ^ 64
  bytes_bound = omega (arith, bytes_are, bytes-held v bucket kept.sound)

  pub weight_bound : weight_in rows < 2 ^ 64
  weight_bound = omega (arith, weight_is, weight-held v bucket kept.sound kept.limits.last)

-- the rows so far with one more, and those that follow
first_of : (f : Row → ℕ) (rows : List Row) (row : Row) (tail : List Row) (most : ℕ) → sum_by f ((rows ++ row ∷ []) ++ tail) < most → sum_by f rows + f row < most
first_of f rows row tail most low = omega (arith, low, sum_by-append f (rows ++ row ∷ []) tail, sum_by_push f rows row)

module _ (v : Vault) (kept : IsKept v) (bucket : List ℕ) (rows : List Row) (row : Row) (tail : List Row) (are : IsPermutation (map sized_row (flat_map sized_of (held_versions_in v bucket))) ((rows ++ row ∷ []) ++ tail)) where
  readable_row : ReportsOne sized_row IsSizedRow row
  readable_row = at_seam (ReportsOne sized_row IsSizedRow) rows row tail (all-permutation (ReportsOne sized_row IsSizedRow) _ _ are (sized_readable v kept bucket))

  own : unsized row ≡ readable_row.0
  own = ap unsized readable_row.1 ∙ back readable_row.0

  bytes_fit : (bytes : ℕ) → bytes ≡ bytes_in rows → bytes + readable_row.0.size < 2 ^ 64
  bytes_fit bytes is =
      let low = first_of (λ r. (unsized r).size) rows row tail (2 ^ 64) (bytes_bound v kept bucket _ are) in
      let size = ap (λ (x : SizedRow). x.size) own in
      omega (arith, low, is, size)

  weight_fits : (weight : ℕ) → weight ≡ weight_in rows → weight + weight_of readable_row.0 < 2 ^ 64
  weight_fits weight is =
      let low = first_of (λ r. weight_of (unsized r)) rows row tail (2 ^ 64) (weight_bound v kept bucket _ are) in
      let one = ap weight_of own in
      omega (arith, low, is, one)

-- a row that goes on from those before it is that of a version, and the sums with it are numbers of 64 bits
pub fits : (v : Vault) (bucket : List ℕ) (rows : List Row) (row : Row) (tail : List Row) (bytes weight : ℕ) → FindsRows v sized_text (Text bucket ∷ []) ((rows ++ row ∷ []) ++ tail) → bytes ≡ bytes_in rows → weight ≡ weight_in rows
    → (x : SizedRow) × IsSizedRow x × (row ≡ sized_row x) × (bytes + x.size < 2 ^ 64) × (weight + weight_of x < 2 ^ 64)
fits v bucket rows row tail bytes weight found is_bytes is_weight =
    let kept = found.1.spells.kept in
    let are = found_sized v bucket ((rows ++ row ∷ []) ++ tail) found in
    let it = readable_row v kept bucket rows row tail are in
    (it.0, it.2, it.1, bytes_fit v kept bucket rows row tail are bytes is_bytes, weight_fits v kept bucket rows row tail are weight is_weight)
