-- A value of its column's type is taken by it as it is.
use Rattle.std.proofs.Common.{◌≡◌, ℕ, zero, suc, ◌+◌, List, [], ◌∷◌, drop, slice_get, Bool, true, false, ◌&&◌, if◌then◌else◌, Option, Some, None, refl, sym, subst, true≢false}
use Rattle.std.specs.List.{list_all}
use Rattle.std.proofs.lemmas.Bool.{and_parts}
use Rattle.sqlite_value.specs.declared.value.Value.{Value}
use Rattle.sqlite_value.specs.declared.value.Value.TheVariants.{Null, Int, Real, Text, Blob}
use Rattle.sqlite_value.specs.Order.{Row, column}
use Rattle.sqlite_sql.specs.Ops.{is_null}
use Rattle.sqlite_schema.specs.declared.schema.Column.{Column}
use Rattle.sqlite_schema.specs.declared.schema.Kind.{Kind}
use Rattle.sqlite_schema.specs.declared.schema.Kind.TheVariants as kind
use Rattle.sqlite_schema.specs.declared.schema.Table.{Table as Columns}
use Rattle.sqlite_schema.specs.Names.{is_key}
use Rattle.sqlite_schema.specs.Rules.{is_of, has_affinity, suits, are_typed}
use Rattle.sqlite_rules.specs.Cast.{cast}
use Rattle.vault_audit_model.proofs.ValueLemmas.{cast_null, cast_int}

abbrev pub is_simple : Kind → Bool
is_simple kind.Integer = true
is_simple kind.Real = false
is_simple kind.Text = true
is_simple kind.Blob = true
is_simple kind.Any = true

-- a column of a STRICT table that is no REAL
abbrev pub is_plain : Column → Bool
is_plain c = c.is_strict && is_simple c.kind

null_taken : (k : Kind) → is_simple k ≡ true → cast k Null ≡ Null
null_taken kind.Integer simple = cast_null
null_taken kind.Real simple = absurd (true≢false (sym simple))
null_taken kind.Text simple = refl
null_taken kind.Blob simple = refl
null_taken kind.Any simple = refl

typed_taken : (k : Kind) → is_simple k ≡ true → (v : Value) → is_of k v ≡ true → cast k v ≡ v
typed_taken kind.Real simple v h = absurd (true≢false (sym simple))
typed_taken kind.Any simple v h = refl
typed_taken kind.Blob simple v h = refl
typed_taken kind.Integer simple Null h = cast_null
typed_taken kind.Integer simple (Int n) h = cast_int n
typed_taken kind.Integer simple (Real x) h = absurd (true≢false (sym h))
typed_taken kind.Integer simple (Text t) h = absurd (true≢false (sym h))
typed_taken kind.Integer simple (Blob b) h = absurd (true≢false (sym h))
typed_taken kind.Text simple Null h = refl
typed_taken kind.Text simple (Int n) h = absurd (true≢false (sym h))
typed_taken kind.Text simple (Real x) h = absurd (true≢false (sym h))
typed_taken kind.Text simple (Text t) h = refl
typed_taken kind.Text simple (Blob b) h = absurd (true≢false (sym h))

key_taken : (k : Kind) → is_simple k ≡ true → (v : Value) → is_null v ≡ true → cast k v ≡ v
key_taken k simple Null h = null_taken k simple
key_taken k simple (Int n) h = absurd (true≢false (sym h))
key_taken k simple (Real x) h = absurd (true≢false (sym h))
key_taken k simple (Text t) h = absurd (true≢false (sym h))
key_taken k simple (Blob b) h = absurd (true≢false (sym h))

value_taken : (keyed : Bool) (c : Column) (v : Value) → is_plain c ≡ true → (if keyed then is_null v else suits c v) ≡ true → cast c.kind v ≡ v
value_taken true c v plain h = key_taken c.kind (and_parts _ _ plain).1 v h
value_taken false c v plain h = typed_taken c.kind (and_parts _ _ plain).1 v (subst (λ b. (if b then is_of c.kind v else has_affinity c.kind v) ≡ true) (and_parts _ _ plain).0 h)

same_some : {X : Type 0} (x y : X) → ◌≡◌ {A = Option X} (Some x) (Some y) → y ≡ x
same_some x y e = cc

none_some : {X : Type 0} (x : X) → ◌≡◌ {A = Option X} None (Some x) → ⊥
none_some x e = cc

-- a row may lack its last columns, which read as NULL
absent_taken : (cs : List Column) → list_all is_plain cs ≡ true → (k : ℕ) (c : Column) → slice_get cs k ≡ Some c → cast c.kind Null ≡ Null
absent_taken [] plain zero c at = absurd (none_some c at)
absent_taken [] plain (suc k) c at = absurd (none_some c at)
absent_taken (d ∷ cs) plain zero c at = rw (same_some d c at) (null_taken d.kind (and_parts _ _ (and_parts _ _ plain).0).1)
absent_taken (d ∷ cs) plain (suc k) c at = absent_taken cs (and_parts _ _ plain).1 k c at

taken_at : (key : Option ℕ) (first : ℕ) (cs : List Column) (vs : Row) → list_all is_plain cs ≡ true → are_typed key first cs vs ≡ true → (k : ℕ) (c : Column) → slice_get cs k ≡ Some c
    → cast c.kind (column vs k) ≡ column vs k
taken_at key first [] vs plain typed zero c at = absurd (none_some c at)
taken_at key first [] vs plain typed (suc k) c at = absurd (none_some c at)
taken_at key first (d ∷ cs) [] plain typed zero c at = absent_taken (d ∷ cs) plain zero c at
taken_at key first (d ∷ cs) [] plain typed (suc k) c at = absent_taken (d ∷ cs) plain (suc k) c at
taken_at key first (d ∷ cs) (v ∷ vs) plain typed zero c at = rw (same_some d c at) (value_taken (is_key key first) d v (and_parts _ _ plain).0 (and_parts _ _ typed).0)
taken_at key first (d ∷ cs) (v ∷ vs) plain typed (suc k) c at = taken_at key (first + 1) cs vs (and_parts _ _ plain).1 (and_parts _ _ typed).1 k c at

past_first : (r : Row) (k : ℕ) → column (drop 1 r) k ≡ column r (suc k)
past_first [] zero = refl
past_first [] (suc k) = refl
past_first (v ∷ vs) k = refl

-- what a row of a table has in a column, that column takes
pub column_taken : (base : Columns) (r : Row) → list_all is_plain base.columns ≡ true → are_typed base.key 0 base.columns (drop 1 r) ≡ true → (k : ℕ) (c : Column) → slice_get base.columns k ≡ Some c
    → cast c.kind (column r (suc k)) ≡ column r (suc k)
column_taken base r plain typed k c at = subst (λ v. cast c.kind v ≡ v) (past_first r k) (taken_at base.key 0 base.columns (drop 1 r) plain typed k c at)
