-- Rows of a table, each beside the entry that it names.
use Rattle.std.specs.Ordering.{int_cmp}
use Rattle.std.proofs.Common.{◌≡◌, ◌⊎◌, ◌<◌, inl, inr, ℕ, ◌+◌, pos, List, [], ◌∷◌, map, filter, find, Bool, true, false, ◌==◌, Option, Some, None, Equal, IsPermutation, refl, sym, ap, subst, ◌∙◌, true≢false, arith}
use Rattle.std.specs.Prelude.{slice_get}
use Rattle.std.proofs.lemmas.Cmp.{alike_right}
use Rattle.std.proofs.lemmas.List.Sorted.{length_permutation}
use Rattle.sqlite_keyed.proofs.ListLemmas.{filter-map, slice_get-filter, IsPermutation-filter}
use Rattle.sqlite_value.specs.declared.value.Value.{Value}
use Rattle.sqlite_value.specs.declared.value.Value.TheVariants.{Null, Int, Real, Text, Blob}
use Rattle.sqlite_value.specs.declared.keys.Collation.TheVariants.{Binary}
use Rattle.sqlite_value.specs.Order.{Row, column, value_cmp}
use Rattle.sqlite_value.proofs.OrderLemmas.{value_cmp_total, value_cmp-Int}
use Rattle.sqlite_sql.specs.declared.ops.BinaryOp.TheVariants.{Compare}
use Rattle.sqlite_sql.specs.declared.ops.CompareOp.TheVariants.{Eq}
use Rattle.sqlite_sql.specs.Ops.{binary, is_true}
use Rattle.sqlite_sql.specs.Query.{or_nulls}
use Rattle.sqlite.proofs.Callers.{one_permutation}
use Rattle.vault_core_model.specs.declared.records.Entry.{Entry}
use Rattle.vault_audit_model.specs.Rows.{entry_row, entry_columns}
use Rattle.vault_audit_model.specs.Relations.{AreNumbered}
use Rattle.vault_audit_model.specs.Values.{number}
use Rattle.vault_audit_model.proofs.ValueLemmas.{same_number}
use Rattle.vault_audit_laws.proofs.TieLemmas.{equal_is}

-- ---- the entry of an id

-- whether the first value of a row is this one
abbrev pub is_of : Value → Row → Bool
is_of v row = is_true (binary (Compare Eq Binary) (column row 0) v)

abbrev pub is_id : Value → Entry → Bool
is_id v e = is_of v (entry_row e)

pub is_id_number : (k : ℕ) (e : Entry) → is_id (number k) e ≡ (e.id == k)
is_id_number k e = same_number e.id k

equal_of : (v : Value) (e : Entry) → is_id v e ≡ true → value_cmp (number e.id) v ≡ Equal
unfolding binary
equal_of Null e h = absurd (true≢false (sym h))
equal_of (Int n) e h = equal_is _ h
equal_of (Real x) e h = equal_is _ h
equal_of (Text t) e h = equal_is _ h
equal_of (Blob b) e h = equal_is _ h

ints_equal : (a b : ℕ) → int_cmp (pos a) (pos b) ≡ Equal → a ≡ b
ints_equal a b h = grind arith

-- no value is the id of two entries
one_id : (v : Value) (x y : Entry) → is_id v x ≡ true → is_id v y ≡ true → x.id ≡ y.id
one_id v x y p q =
    let same = alike_right value_cmp_total (number y.id) v (number x.id) (equal_of v y q) ∙ equal_of v x p in
    ints_equal x.id y.id (sym (value_cmp-Int (pos x.id) (pos y.id)) ∙ same)

none_after : (external : Bool) (v : Value) (x : Entry) → is_id v x ≡ true → (next low : ℕ) (es : List Entry) → x.id < next → AreNumbered external next low es → filter (is_id v) es ≡ []
none_after external v x is next low [] less are = refl
none_after external v x is next low (e ∷ es) less are = of (is_id v e) refl (none_after external v x is (next + 1) e.admitted es (omega (arith, less)) are.1)
  where
    of : (b : Bool) → is_id v e ≡ b → filter (is_id v) es ≡ [] → filter (is_id v) (e ∷ es) ≡ []
    of true h none = absurd (let same = one_id v x e is h in let here = are.0.1.0 in omega (arith, same, less, here))
    of false h none = rw h none

abbrev HasOneOrNone : List Entry → Type 0
HasOneOrNone es = (es ≡ []) ⊎ ((e : Entry) × (es ≡ e ∷ []))

one_or_none : (external : Bool) (v : Value) (next low : ℕ) (es : List Entry) → AreNumbered external next low es → HasOneOrNone (filter (is_id v) es)
one_or_none external v next low [] are = inl refl
one_or_none external v next low (e ∷ es) are = of (is_id v e) refl (one_or_none external v (next + 1) e.admitted es are.1)
  where
    of : (b : Bool) → is_id v e ≡ b → HasOneOrNone (filter (is_id v) es) → HasOneOrNone (filter (is_id v) (e ∷ es))
    of true h more = inr (e, rw h (ap (λ xs. e ∷ xs) (none_after external v e h (next + 1) e.admitted es (let here = are.0.1.0 in omega (arith, here)) are.1)))
    of false h more = rw h more

-- the row of an entry, or NULLs
abbrev pub row_beside : Option Entry → Row
row_beside None = entry_columns []
row_beside (Some e) = entry_row e

-- the row of the entry whose id is this value
abbrev pub beside : List Entry → Value → Row
beside es v = row_beside (find (is_id v) es)

pub find_same : (p q : Entry → Bool) → ((e : Entry) → p e ≡ q e) → (es : List Entry) → find p es ≡ find q es
find_same p q same [] = refl
find_same p q same (e ∷ es) = rw (same e, find_same p q same es) refl

pub beside_number : (es : List Entry) (k : ℕ) → beside es (number k) ≡ row_beside (find (λ e. e.id == k) es)
beside_number es k = ap row_beside (find_same (is_id (number k)) (λ e. e.id == k) (is_id_number k) es)

-- a list of no length, and one of one row, under a map
none_mapped : (rows : List Row) → IsPermutation [] (map entry_columns rows) → rows ≡ []
none_mapped [] h = refl
none_mapped (r ∷ rows) h = absurd (let n = length_permutation _ _ h in omega (arith, n))

given_rows : (rows : List Row) (x : Row) → map entry_columns rows ≡ x ∷ [] → map entry_columns (or_nulls rows) ≡ x ∷ []
given_rows [] x h = absurd cc
given_rows (r ∷ rows) x h = h

found_by : (v : Value) (es : List Entry) (xs : List Entry) → filter (is_id v) es ≡ xs → find (is_id v) es ≡ slice_get xs 0
found_by v es xs h = sym (slice_get-filter (is_id v) es) ∙ ap (λ l. slice_get l 0) h

module _ (external : Bool) (source : List Row) (es : List Entry) (are : IsPermutation (map entry_row es) (map entry_columns source)) (numbers : AreNumbered external 1 0 es) where
  matched : (v : Value) → IsPermutation (map entry_row (filter (is_id v) es)) (map entry_columns (filter (is_of v) source))
  matched v =
      subst (λ xs. IsPermutation xs (map entry_columns (filter (is_of v) source))) (filter-map (is_of v) entry_row es)
      (subst (IsPermutation (filter (is_of v) (map entry_row es))) (filter-map (is_of v) entry_columns source) (IsPermutation-filter (is_of v) _ _ are))

  -- what a join finds for a value is the entry whose id it is, or a row of NULLs
  pub beside_is : (v : Value) → map entry_columns (or_nulls (filter (is_of v) source)) ≡ beside es v ∷ []
  beside_is v = of (one_or_none external v 1 0 es numbers)
    where
      of : HasOneOrNone (filter (is_id v) es) → map entry_columns (or_nulls (filter (is_of v) source)) ≡ beside es v ∷ []
      of (inl none) =
          let empty = none_mapped (filter (is_of v) source) (subst (λ xs. IsPermutation (map entry_row xs) (map entry_columns (filter (is_of v) source))) none (matched v)) in
          rw (empty, found_by v es [] none) refl
      of (inr (e, one)) =
          let same = one_permutation (entry_row e) (map entry_columns (filter (is_of v) source)) (subst (λ xs. IsPermutation (map entry_row xs) (map entry_columns (filter (is_of v) source))) one (matched v)) in
          given_rows (filter (is_of v) source) (entry_row e) same ∙ ap (λ x. row_beside x ∷ []) (sym (found_by v es (e ∷ []) one))
