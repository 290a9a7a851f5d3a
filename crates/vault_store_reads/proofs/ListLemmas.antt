-- The parts of records that pass a test, and the first row of an answer.
use Rattle.std.proofs.Common.{◌≡◌, inl, List, [], ◌∷◌, ◌++◌, map, filter, flat_map, cond, Bool, true, false, Option, None, Some, length, slice_get, IsPermutation, refl, sym, ap, ◌∙◌, arith}
use Rattle.std.proofs.lemmas.List.Sorted.{length_permutation}
use Rattle.sqlite_value.specs.Order.{Row}
use Rattle.sqlite_rules.specs.Lists.{Has}
use Rattle.sqlite_rules.proofs.ProbeLemmas.{has_mapped}
use Rattle.vault_audit_laws.proofs.Members.{permuted_within}
use Rattle.std.proofs.lemmas.List.Elements.{filter-append}

-- ---- parts of records

-- of all parts, those that pass are the parts of the records that pass
pub filter_parts : {X R : Type 0} (parts : X → List R) (p : R → Bool) (q : X → Bool) → ((x : X) → filter p (parts x) ≡ cond (q x) (parts x) []) → (xs : List X)
    → filter p (flat_map parts xs) ≡ flat_map parts (filter q xs)
filter_parts parts p q own [] = refl
filter_parts parts p q own (x ∷ xs) =
    filter-append p (parts x) (flat_map parts xs) ∙ ap (λ rs. rs ++ filter p (flat_map parts xs)) (own x) ∙ ap (λ rs. cond (q x) (parts x) [] ++ rs) (filter_parts parts p q own xs) ∙ joined (q x)
  where
    joined : (b : Bool) → cond b (parts x) [] ++ flat_map parts (filter q xs) ≡ flat_map parts (cond b (x ∷ filter q xs) (filter q xs))
    joined true = refl
    joined false = refl

-- ---- the first row of an answer

module _ {X : Type 0} (row_of : X → Row) where
  first_has : (rows : List Row) (row : Row) → slice_get rows 0 ≡ Some row → Has rows row
  first_has [] row first = absurd (cc first)
  first_has (r ∷ rs) row first = inl (let same : r ≡ row = cc first in sym same)

  -- it is that of one of the records
  pub first_of : (xs : List X) (rows : List Row) (row : Row) → IsPermutation (map row_of xs) rows → slice_get rows 0 ≡ Some row → (x : X) × Has xs x × (row ≡ row_of x)
  first_of xs rows row same first = has_mapped row_of xs row (permuted_within (map row_of xs) rows same row (first_has rows row first))

  no_rows : (rows : List Row) → ◌≡◌ {A = Option Row} None (slice_get rows 0) → length rows ≡ 0
  no_rows [] none = refl
  no_rows (r ∷ rs) none = absurd (cc none)

  no_records : (xs : List X) → length (map row_of xs) ≡ 0 → xs ≡ []
  no_records [] e = refl
  no_records (x ∷ xs) e = absurd (omega (arith, e))

  -- there is none, where there is no record
  pub none_of : (xs : List X) (rows : List Row) → IsPermutation (map row_of xs) rows → ◌≡◌ {A = Option Row} None (slice_get rows 0) → xs ≡ []
  none_of xs rows same none = no_records xs (let n = length_permutation (map row_of xs) rows same in let m = no_rows rows none in omega (arith, n, m))
